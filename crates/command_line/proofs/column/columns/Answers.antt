use Rattle.std.proofs.Common.{◌∷◌, [], ◌++◌}
use Rattle.std.proofs.lemmas.Result.{err_from_is_err_and}
use Rattle.command_line.specs.DeclarationReading.{column_at}
use Rattle.command_line.specs.Words.{column_of}
use Rattle.command_line.proofs.ColumnReading.{column_leaves}
use Rattle.command_line.proofs.ListLoop.{listed_first, next_shrinks, goes_on_next, goes_on_stops, goes_on_ends}
use Rattle.command_line.proofs.ColumnsLoop.{first-read, next_read}
use Rattle.command_line.proofs.column.columns.Goals as goal

pub more-init : goal.more-init
more-init c =
    let first = column_of c.in_ok-first.first in (
      first ∷ [],
      listed_first column_at column_leaves c.args.text.now first c.in_ok-first.behind.now c.in_ok-first.ensures.read,
      first-read c.args.kept c.args.wanted.now c.with-columns.result first c.with-columns.ensures.kept c.with-columns.ensures.found,
    )

pub returns : goal.returns
returns c = (
  c.more.invariant.0,
  goes_on_ends column_at column_leaves c.args.text.now c.more.invariant.0 c.more.rest.now c.more.invariant.1 c.in_default.ensures,
  c.more.invariant.2,
)

pub returns-in_err-next : goal.returns-in_err-next
returns-in_err-next c =
    let stops = goes_on_stops column_at column_leaves c.args.text.now c.more.rest.now c.more.invariant.0 c.in-Some.behind.now c.in_err-next.field-0.0.now c.more.invariant.1 c.in-Some.ensures c.in_err-next.ensures.read in
    let p = err_from_is_err_and c.from_residual-in_err-next.result c.from_residual-in_err-next.ensures.1 in
    rw (p.1, p.2) stops

pub more-smaller : goal.more-smaller
more-smaller c = next_shrinks column_at column_leaves c.more.rest.now c.in-Some.behind.now (column_of c.in_ok-next.next) c.in_ok-next.behind.now c.in-Some.ensures c.in_ok-next.ensures.read

pub more-preserved : goal.more-preserved
more-preserved c =
    let next = column_of c.in_ok-next.next in (
      c.more.invariant.0 ++ next ∷ [],
      goes_on_next column_at column_leaves c.args.text.now c.more.rest.now c.more.invariant.0 c.in-Some.behind.now next c.in_ok-next.behind.now c.more.invariant.1 c.in-Some.ensures c.in_ok-next.ensures.read,
      next_read c.args.kept c.args.wanted.now c.more.columns c.with-columns-in-Some.result c.more.invariant.0 next c.more.invariant.2 c.with-columns-in-Some.ensures.kept c.with-columns-in-Some.ensures.found,
    )
