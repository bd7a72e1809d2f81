use Rattle.std.proofs.Common.{refl, arith}
use Rattle.block_model.specs.declared.reply.Point.TheVariants as points
use Rattle.page_map.specs.Keeps.{Untold}
use Rattle.page_locks.specs.declared.did.Did.TheVariants as did
use Rattle.page_locks.specs.LockHolders.{holder}
use Rattle.index_contents.specs.IndexContents.{relation_of}
use Rattle.index_steps.specs.declared.growth_stage.Stage.TheVariants as stages
use Rattle.index_steps.specs.Called.{hand_at}
use Rattle.index_steps.specs.LockLaws.{gives_apart, takes_more}
use Rattle.index_steps.proofs.Refusals.{done}
use Rattle.index_steps.proofs.Standing.{counts_at}
use Rattle.index_steps.proofs.counting.finish.Goals as goal

pub returns-in-Ok : goal.returns-in-Ok
returns-in-Ok g c = λ was.
    let store = c.args.pages.now in
    done g.D.Disk.told c.args.actor (Untold g.D.Disk.told c.args.pages.now) (hand_at c.args.index stages.Count was) was store c.count.new.pages c.args.locks.now c.count.new.locks stages.Judge (did.Finished points.Meta)
    (λ tells. counts_at store.layout store.pages c.args.index c.args.actor was was c.args.locks.now (relation_of store.layout c.args.index) refl c.args.block c.count.new.pages.pages c.count.new.locks (c.in-Ok.ensures.counted tells) c.in-Ok.ensures.given.all)
    (refl, refl, refl) tt c.count.ensures.others (gives_apart (relation_of store.layout c.args.index) c.args.actor (holder c.args.locks.now) (holder c.count.new.locks) c.in-Ok.ensures.given.all)
    (takes_more 0 0 c.args.locks.now c.count.new.locks c.args.actor (omega arith) c.count.ensures.counts.limit c.count.ensures.counts.adds)
    (λ gives. c.in-Ok.ensures.given.none) (λ few. omega (arith, c.in-Ok.ensures.given.none)) c.count.ensures.order c.count.ensures.survives c.in-Ok.ensures.outcome
