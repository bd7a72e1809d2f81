use Rattle.std.proofs.Common.{ℕ, ◌+◌, ◌<◌, ◌≤◌, List, length, sym, subst, arith}
use Rattle.page_locks.specs.LockHolders.{count_of}
use Rattle.range_store.specs.Tuples.{IsTupleSize}
use Rattle.range_tuple.specs.TupleBytes.{tuple_bytes}
use Rattle.index_steps.specs.declared.moves.Move.{Move}
use Rattle.index_steps.specs.declared.moves.Move.TheVariants as moves
use Rattle.index_steps.specs.Moves.{MoveCalled, taken_to_move}
use Rattle.index_steps.proofs.moves.step_move.Goals as goal

pub returns-in-Swap-clause-called : goal.returns-in-Swap-clause-called
returns-in-Swap-clause-called g c =
    let told = g.D.Disk.told in
    let old = c.args.pages.now in
    let new = c.swapped.new.pages in
    let before = c.args.locks.now in
    let after = c.swapped.new.locks in
    let bytes = tuple_bytes c.args.tuple.now in
    subst (λ (m : Move). MoveCalled told c.args.at m c.args.copied.now bytes old new before after c.swapped.result) (sym c.in-Swap.is)
    (subst (λ (b : List ℕ). MoveCalled told c.args.at (moves.Swap c.in-Swap.spot) b bytes old new before after c.swapped.result) c.bytes.ensures
    (subst (λ (b : List ℕ). MoveCalled told c.args.at (moves.Swap c.in-Swap.spot) c.bytes.result.now b old new before after c.swapped.result) c.spell-size.ensures.bytes c.swapped.ensures))

pub returns-in-Set-clause-called : goal.returns-in-Set-clause-called
returns-in-Set-clause-called g c =
    let bytes = tuple_bytes c.args.tuple.now in
    subst (λ (m : Move). MoveCalled g.D.Disk.told c.args.at m c.args.copied.now bytes c.args.pages.now c.named.new.pages c.args.locks.now c.args.locks.now c.named.result) (sym c.in-Set.is)
    (c.named.ensures c.args.locks.now c.args.copied.now bytes)

pub returns-in-Drop-clause-called : goal.returns-in-Drop-clause-called
returns-in-Drop-clause-called g c =
    let bytes = tuple_bytes c.args.tuple.now in
    subst (λ (m : Move). MoveCalled g.D.Disk.told c.args.at m c.args.copied.now bytes c.args.pages.now c.dropped.new.pages c.args.locks.now c.dropped.new.locks c.dropped.result) (sym c.in-Drop.is)
    (c.dropped.ensures c.args.copied.now bytes)

pub swapped-requires-clause-size : goal.swapped-requires-clause-size
swapped-requires-clause-size g c = subst (λ (b : List ℕ). IsTupleSize (length b)) (sym c.spell-size.ensures.bytes) c.spell-size.ensures.size

pub swapped-requires-clause-locks : goal.swapped-requires-clause-locks
swapped-requires-clause-locks g c = subst (λ (m : Move). 0 < taken_to_move m → count_of c.args.locks.now + 3 ≤ c.args.locks.now.limit) c.in-Swap.is c.requires.locks (omega arith)
