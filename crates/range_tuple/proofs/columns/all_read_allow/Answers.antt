use Rattle.std.proofs.Common.{sym, ap, ◌∙◌}
use Rattle.std.proofs.lemmas.Bool.{and_from}
use Rattle.std.proofs.lemmas.List.Folds.{list_all_at, list_all_more}
use Rattle.range_tuple.specs.Keeps.{column_allows}
use Rattle.range_tuple.proofs.columns.all_read_allow.Goals as goal

pub returns-then-not-allows_each-clause-answer : goal.returns-then-not-allows_each-clause-answer
returns-then-not-allows_each-clause-answer c =
    let p = column_allows c.args.conds.now in
    sym (list_all_at p c.args.spare.now c.columns.column-index c.column-item.result c.columns-test.true (ap p (sym c.column-item.is) ∙ sym c.if-not-allows_each.ensures.answer))

pub columns-preserved : goal.columns-preserved
columns-preserved c =
    let p = column_allows c.args.conds.now in
    list_all_more p c.args.spare.now c.columns.column-index c.column-item.result c.columns-test.true ∙ and_from _ _ c.columns.invariant (ap p (sym c.column-item.is) ∙ sym c.if-not-allows_each.ensures.answer)
