use Rattle.std.proofs.Common.{sym, subst}
use Rattle.std.specs.Prelude.{Ok}
use Rattle.index_steps.specs.declared.moves.Move.TheVariants as moves
use Rattle.index_steps.specs.declared.moves.MoveStep.{MoveStep}
use Rattle.index_steps.specs.Moves.{MoveCalled, of_swap}
use Rattle.index_steps.proofs.MoveSteps.{move_done, swap_blocked, swap_comes, swap_gives, swap_makes, swap_owns}
use Rattle.index_steps.proofs.moves.swapped.Goals as goal

pub returns-in-Ok : goal.returns-in-Ok
returns-in-Ok g c =
    let told = g.D.Disk.told in
    let old = c.args.pages.now in
    let new = c.swap.new.pages in
    let before = c.args.locks.now in
    let after = c.swap.new.locks in
    let at = c.args.at in
    let x = c.args.spot in
    let copied = c.args.copied.now in
    let bytes = c.args.bytes.now in
    let one = c.in-Ok.swapped in
    subst (λ (step : MoveStep). MoveCalled told at (moves.Swap x) copied bytes old new before after (Ok step)) (sym c.of_swap.ensures)
    (move_done told at copied bytes old new before after (moves.Swap x) (of_swap x one) (swap_comes told at copied bytes old new before after x one) (λ tells. swap_makes told at copied bytes old new before after x one (c.in-Ok.ensures.swapped tells))
    (swap_blocked told at copied bytes old new before after x one c.in-Ok.ensures.waits c.in-Ok.ensures.locks c.in-Ok.ensures.pages) c.swap.ensures.others c.swap.ensures.order c.swap.ensures.apart c.swap.ensures.counts
    (λ gives. absurd (swap_gives told at copied bytes old new before after x one gives)) (swap_owns told at copied bytes old new before after x one c.in-Ok.ensures.locks c.swap.ensures.counts) c.swap.ensures.survives c.in-Ok.ensures.outcome)
