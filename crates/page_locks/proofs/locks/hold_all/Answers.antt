use Rattle.std.proofs.Common.{get_or, ◌∙◌, arith}
use Rattle.block_model.specs.declared.place.Place.{Place}
use Rattle.page_locks.specs.LockChanges.{page_of}
use Rattle.page_locks.specs.HeldLocks.{holders_of}
use Rattle.page_locks.proofs.Takings.{all_stay_free, held_more, one_at}
use Rattle.page_locks.proofs.locks.hold_all.Goals as goal

pub hold-requires-clause-free : goal.hold-requires-clause-free
hold-requires-clause-free c = c.pages.invariant.free (get_or c.args.blocks.now c.pages.block-index 0) (one_at c.args.blocks.now c.pages.block-index c.pages-test.true)

pub pages-preserved : goal.pages-preserved
pages-preserved c =
    let page : Place = page_of c.args.relation (get_or c.args.blocks.now c.pages.block-index 0) in
    record {
      rest = held_more (holders_of c.pages.held.items) (holders_of c.hold.new.held.items) c.args.relation c.args.actor c.args.blocks.now c.pages.block-index c.pages-test.true c.hold.ensures.holders ∙ c.pages.invariant.rest;
      apart = c.hold.ensures.apart;
      free = all_stay_free c.pages.held.items c.hold.new.held.items page c.args.relation c.args.actor c.args.blocks.now c.hold.ensures.holders c.pages.invariant.free;
      few = omega (arith, c.hold.ensures.few, c.pages.invariant.few);
      capacity = c.hold.ensures.capacity ∙ c.pages.invariant.capacity;
    }
