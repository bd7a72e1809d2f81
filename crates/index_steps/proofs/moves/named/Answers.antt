use Rattle.std.proofs.Common.{refl}
use Rattle.page_locks.specs.LockHolders.{holder}
use Rattle.index_contents.specs.IndexContents.{relation_of}
use Rattle.index_steps.specs.declared.moves.Move.TheVariants as moves
use Rattle.index_steps.specs.declared.moves.MoveStep.TheVariants as steps
use Rattle.index_steps.specs.LockLaws.{same_apart, takes_none}
use Rattle.index_steps.proofs.MoveSteps.{move_done}
use Rattle.index_steps.proofs.moves.named.Goals as goal

pub returns-in-Ok : goal.returns-in-Ok
returns-in-Ok g c = λ locks copied widened.
    let at = c.args.at in
    let made = c.name_moved.ensures in
    move_done g.D.Disk.told at copied widened c.args.pages.now c.name_moved.new.pages locks locks (moves.Set c.args.from c.args.to) (steps.Named c.args.from) refl (λ tells. (refl, c.in-Ok.ensures.set tells)) tt made.others made.order
    (same_apart (relation_of c.args.pages.now.layout at.index) at.actor (holder locks)) (takes_none 0 locks at.actor) (λ gives. absurd gives) (λ few. few) made.survives c.in-Ok.ensures.outcome
