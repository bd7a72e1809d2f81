use Rattle.std.proofs.Common.{◌∷◌, [], ◌++◌}
use Rattle.std.proofs.lemmas.Result.{err_from_is_err_and}
use Rattle.command_line.specs.DeclarationReading.{part_at}
use Rattle.command_line.specs.Words.{part_text}
use Rattle.command_line.proofs.PartReading.{part_leaves}
use Rattle.command_line.proofs.ListLoop.{listed_first, next_shrinks, goes_on_next, goes_on_stops, goes_on_ends}
use Rattle.command_line.proofs.part.behind_parts.Goals as goal

pub more-init : goal.more-init
more-init c =
    let first = part_text c.in_ok-_first._first in
    (first ∷ [], listed_first part_at part_leaves c.args.text.now first c.in_ok-_first.behind.now c.in_ok-_first.ensures)

pub returns : goal.returns
returns c = (c.more.invariant.0, goes_on_ends part_at part_leaves c.args.text.now c.more.invariant.0 c.more.rest.now c.more.invariant.1 c.in_default.ensures)

pub returns-in_err-_next : goal.returns-in_err-_next
returns-in_err-_next c =
    let stops = goes_on_stops part_at part_leaves c.args.text.now c.more.rest.now c.more.invariant.0 c.in-Some.behind.now c.in_err-_next.field-0.0.now c.more.invariant.1 c.in-Some.ensures c.in_err-_next.ensures in
    let p = err_from_is_err_and c.from_residual-in_err-_next.result c.from_residual-in_err-_next.ensures.1 in
    rw (p.1, p.2) stops

pub more-smaller : goal.more-smaller
more-smaller c = next_shrinks part_at part_leaves c.more.rest.now c.in-Some.behind.now (part_text c.in_ok-_next._next) c.in_ok-_next.behind.now c.in-Some.ensures c.in_ok-_next.ensures

pub more-preserved : goal.more-preserved
more-preserved c =
    let next = part_text c.in_ok-_next._next in (
      c.more.invariant.0 ++ next ∷ [],
      goes_on_next part_at part_leaves c.args.text.now c.more.rest.now c.more.invariant.0 c.in-Some.behind.now next c.in_ok-_next.behind.now c.more.invariant.1 c.in-Some.ensures c.in_ok-_next.ensures,
    )
