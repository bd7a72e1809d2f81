use Rattle.std.proofs.Common.{refl, arith}
use Rattle.block_model.specs.declared.reply.Point.TheVariants as points
use Rattle.page_map.specs.Keeps.{Untold}
use Rattle.page_locks.specs.declared.did.Did.TheVariants as did
use Rattle.page_locks.specs.LockHolders.{holder}
use Rattle.index_contents.specs.IndexContents.{contents, relation_of}
use Rattle.index_steps.specs.IndexTuples.{shape_of}
use Rattle.index_steps.specs.declared.growth_stage.Stage.TheVariants as stages
use Rattle.index_steps.specs.Called.{hand_at}
use Rattle.index_steps.proofs.Refusals.{done}
use Rattle.index_steps.proofs.Stepped.{drops}
use Rattle.index_steps.proofs.moving_off.drop_old.Goals as goal

pub returns-in-Ok : goal.returns-in-Ok
returns-in-Ok g c = λ moved.
    let store = c.args.pages.now in
    done g.D.Disk.told c.args.at.actor (Untold g.D.Disk.told c.args.pages.now) (hand_at c.args.at.index (stages.Drop c.args.at.range c.args.from) moved) moved store c.drop_moved.new.pages c.args.locks.now c.drop_moved.new.locks stages.Judge (did.Moved points.Drop)
    (λ tells. drops (shape_of store.layout c.args.at.index) (contents store.layout store.pages c.args.at.index) (contents store.layout c.drop_moved.new.pages.pages c.args.at.index) (holder c.args.locks.now) (holder c.drop_moved.new.locks) (relation_of store.layout c.args.at.index) c.args.at.actor c.args.at.index moved moved c.args.at.range c.args.from (c.in-Ok.ensures.dropped tells))
    refl tt c.drop_moved.ensures.others c.drop_moved.ensures.apart c.drop_moved.ensures.counts (λ gives. c.in-Ok.ensures.given.none) (λ few. omega (arith, c.in-Ok.ensures.given.none)) c.drop_moved.ensures.order c.drop_moved.ensures.survives c.in-Ok.ensures.outcome
