use Rattle.std.proofs.Common.{arith}
use Rattle.index_steps.specs.declared.moves.Move.TheVariants as moves
use Rattle.index_steps.specs.declared.moves.MoveStep.TheVariants as steps
use Rattle.index_steps.proofs.MoveSteps.{move_done}
use Rattle.index_steps.proofs.moves.dropped.Goals as goal

pub returns-in-Ok : goal.returns-in-Ok
returns-in-Ok g c = λ copied widened.
    let made = c.drop_moved.ensures in
    move_done g.D.Disk.told c.args.at copied widened c.args.pages.now c.drop_moved.new.pages c.args.locks.now c.drop_moved.new.locks (moves.Drop c.args.from) steps.Dropped tt c.in-Ok.ensures.dropped tt made.others made.order made.apart made.counts
    (λ gives. c.in-Ok.ensures.given.none) (λ few. omega (arith, c.in-Ok.ensures.given.none)) made.survives c.in-Ok.ensures.outcome
