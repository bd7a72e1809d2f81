use Rattle.std.proofs.Common.{◌<◌, length}
use Rattle.page_locks.specs.HeldLocks.{found}
use Rattle.page_locks.proofs.Takings.{first_here, first_later, free_with}
use Rattle.page_locks.proofs.locks.first_held.Goals as goal

pub returns-in-Some-clause-first : goal.returns-in-Some-clause-first
returns-in-Some-clause-first c =
    let below : c.pages.block-index < length c.args.blocks.now = c.pages-test.true in
    c.pages.invariant.first c.in-Some.lock.page.block
    (first_here (found c.args.held.now) c.args.relation c.args.actor c.args.blocks.now c.pages.block-index below c.in-Some.lock c.in-Some.ensures.another c.in-Some.ensures.names)

pub pages-preserved : goal.pages-preserved
pages-preserved c =
    let below : c.pages.block-index < length c.args.blocks.now = c.pages-test.true in
    record {
      first = λ q later. c.pages.invariant.first q (first_later (found c.args.held.now) c.args.relation c.args.actor c.args.blocks.now c.pages.block-index below q c.in-None.ensures.free later);
      free = λ rest. c.pages.invariant.free (free_with (found c.args.held.now) c.args.relation c.args.actor c.args.blocks.now c.pages.block-index below c.in-None.ensures.free rest);
    }
