use Rattle.std.proofs.Common.{refl}
use Rattle.block_model.specs.declared.reply.Point.TheVariants as points
use Rattle.page_map.specs.Keeps.{Untold}
use Rattle.page_locks.specs.declared.did.Did.TheVariants as did
use Rattle.page_locks.specs.LockHolders.{holder}
use Rattle.index_contents.specs.IndexContents.{contents, relation_of}
use Rattle.index_steps.specs.IndexTuples.{shape_of}
use Rattle.index_steps.specs.declared.growth_stage.Stage.TheVariants as stages
use Rattle.index_steps.specs.Called.{hand_at}
use Rattle.index_steps.specs.LockLaws.{same_apart, takes_none}
use Rattle.index_steps.proofs.Refusals.{done}
use Rattle.index_steps.proofs.Stepped.{sets}
use Rattle.index_steps.proofs.moving_off.set.Goals as goal

pub returns-in-Ok : goal.returns-in-Ok
returns-in-Ok g c = λ moved.
    let store = c.args.pages.now in
    done g.D.Disk.told c.args.at.actor (Untold g.D.Disk.told c.args.pages.now) (hand_at c.args.at.index (stages.Set c.args.at.range c.args.from c.args.to) moved) moved store c.name_moved.new.pages c.args.locks.now c.args.locks.now (stages.Drop c.args.at.range c.args.from) (did.Moved points.Set)
    (λ tells. sets (shape_of store.layout c.args.at.index) (contents store.layout store.pages c.args.at.index) (contents store.layout c.name_moved.new.pages.pages c.args.at.index) (holder c.args.locks.now) (holder c.args.locks.now) (relation_of store.layout c.args.at.index) c.args.at.actor c.args.at.index moved moved c.args.at.range c.args.from c.args.to (c.in-Ok.ensures.set tells))
    refl tt c.name_moved.ensures.others (same_apart (relation_of store.layout c.args.at.index) c.args.at.actor (holder c.args.locks.now)) (takes_none 0 c.args.locks.now c.args.at.actor) (λ gives. absurd gives) (λ few. few) c.name_moved.ensures.order c.name_moved.ensures.survives c.in-Ok.ensures.outcome
