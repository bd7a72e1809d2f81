use Rattle.std.proofs.Common.{length, ap, refl, sym, ◌∙◌}
use Rattle.range_tuple.specs.Tuples.{IndexedColumn}
use Rattle.range_tuple.proofs.ColumnBytes.{summary_of_none, summary_of_values}
use Rattle.range_tuple.proofs.column.TupleColumn.write_summary.Goals as goal

pub returns-then-not-has_values-clause-size : goal.returns-then-not-has_values-clause-size
returns-then-not-has_values-clause-size c = rw (← c.self.view_is) (ap length (sym (summary_of_none _ (sym c.if-not-has_values.ensures))))

pub returns-then-not-has_values-clause-written : goal.returns-then-not-has_values-clause-written
returns-then-not-has_values-clause-written c =
    let column : IndexedColumn = record { place = c.self.inside.place; class = c.self.inside.class; state = c.self.inside.state; summary = c.self.inside.summary } in
    rw (← c.self.view_is, summary_of_none column (sym c.if-not-has_values.ensures)) refl

pub returns-clause-size : goal.returns-clause-size
returns-clause-size c = rw (← c.self.view_is) (c.encode.ensures.size ∙ ap length (sym (summary_of_values _ (sym c.if-not-has_values.ensures))))

pub returns-clause-written : goal.returns-clause-written
returns-clause-written c =
    let column : IndexedColumn = record { place = c.self.inside.place; class = c.self.inside.class; state = c.self.inside.state; summary = c.self.inside.summary } in
    rw (← c.self.view_is, summary_of_values column (sym c.if-not-has_values.ensures)) c.encode.ensures.written
