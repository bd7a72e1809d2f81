use Rattle.std.proofs.Common.{refl, subst}
use Rattle.block_model.specs.declared.reply.Point.TheVariants as points
use Rattle.store_layout.specs.DiskLayout.{HasBoundedSizes}
use Rattle.page_map.specs.Keeps.{Untold}
use Rattle.page_locks.specs.declared.did.Did.TheVariants as did
use Rattle.page_locks.specs.LockHolders.{holder}
use Rattle.index_contents.specs.IndexContents.{relation_of}
use Rattle.index_steps.specs.declared.growth_stage.Stage.TheVariants as stages
use Rattle.index_steps.specs.Called.{hand_at}
use Rattle.index_steps.specs.LockLaws.{same_apart, takes_none}
use Rattle.index_steps.specs.DamagedPages.{names_page}
use Rattle.index_steps.proofs.Refusals.{done, refused}
use Rattle.index_steps.proofs.Standing.{sweeps_at}
use Rattle.index_steps.proofs.Unnamed.{unnamed_there}
use Rattle.index_steps.proofs.moving_off.drop_unnamed.Goals as goal

pub returns-in-Ok : goal.returns-in-Ok
returns-in-Ok g c = λ was.
    let store = c.args.pages.now in
    done g.D.Disk.told c.args.actor (Untold g.D.Disk.told c.args.pages.now) (hand_at c.args.index stages.Judge was) c.args.bytes.now store c.drop_at.new.pages c.args.locks.now c.args.locks.now stages.Judge (did.Moved points.Drop)
    (λ tells. sweeps_at store.layout store.pages c.args.index c.args.actor was c.args.bytes.now c.args.locks.now (relation_of store.layout c.args.index) refl c.args.spot.block c.drop_at.new.pages.pages c.args.spot c.args.bytes.now refl (c.requires.next tells) (c.requires.first tells)
    (unnamed_there store.layout store.pages c.args.index c.args.bytes.now c.args.range c.args.spot c.known.ensures.whole (subst HasBoundedSizes c.layout.ensures c.known-2.ensures.sizes) c.requires.index (c.requires.of tells) (c.requires.unnamed tells))
    c.requires.free (c.in-Ok.ensures.dropped tells))
    refl tt c.drop_at.ensures.others (same_apart (relation_of store.layout c.args.index) c.args.actor (holder c.args.locks.now)) (takes_none 3 c.args.locks.now c.args.actor)
    (λ gives. absurd gives) (λ few. few) c.drop_at.ensures.order c.drop_at.ensures.survives c.in-Ok.ensures.outcome

pub returns-in-Err : goal.returns-in-Err
returns-in-Err g c = λ was.
    let store = c.args.pages.now in
    let made = c.in-Err.ensures in
    refused g.D.Disk.told store c.drop_at.new.pages made.kept c.args.actor made.survives (Untold g.D.Disk.told store) (hand_at c.args.index stages.Judge was) c.args.bytes.now c.args.locks.now c.args.locks.now c.in-Err.error
    (same_apart (relation_of store.layout c.args.index) c.args.actor (holder c.args.locks.now)) (takes_none 3 c.args.locks.now c.args.actor)
    (names_page store.layout store.layout c.args.index c.args.spot.block c.in-Err.error refl c.requires.index made.reopen made.at) made.outcome
