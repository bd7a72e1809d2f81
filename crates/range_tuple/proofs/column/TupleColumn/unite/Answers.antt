use Rattle.std.proofs.Common.{◌≡◌, ℕ, true, sym, ap, ◌∙◌, subst, rules}
use Rattle.std.proofs.lemmas.Bool.{false≢true}
use Rattle.block_model.specs.declared.value.Value.{Value}
use Rattle.opclass_any.specs.AnyClass.{includes, united}
use Rattle.range_tuple.specs.NullStates.{has_values}
use Rattle.range_tuple.specs.TupleIncludes.{ColumnIncludes}
use Rattle.range_tuple.specs.Tuples.{IndexedColumn, part_of, united_column}
use Rattle.opclass_any.specs.declared.classes.AnyClass.{AnyClass}
use Rattle.opclass_any.specs.declared.classes.AnySummary.{AnySummary}
use Rattle.range_tuple.proofs.Uniting.{row_kept, row_taken}
use Rattle.range_tuple.proofs.column.TupleColumn.unite.Goals.{then-has_values, else-has_values}
use Rattle.range_tuple.proofs.column.TupleColumn.unite.Goals as goal

keeps : (c : goal.Joined-grown) → (v : Value) → has_values c.other.inside.state ≡ true → includes c.self.inside.class c.self.inside.summary v → includes c.self.inside.class (united c.self.inside.class c.self.inside.summary c.other.inside.summary) v
keeps c = elim c.if-has_values.branch [
  | then-has_values w ↦ λ v some within. subst (λ (s : AnySummary). includes c.self.inside.class s v) w.union-grown.ensures.widened (w.union-grown.ensures.keeps_what_it_included v within)
  | else-has_values w ↦ λ v some within. absurd (false≢true (sym w.if-has_values.false ∙ c.has_values.ensures ∙ some))
]

takes : (c : goal.Joined-grown) → (v : Value) → has_values c.other.inside.state ≡ true → includes c.self.inside.class c.other.inside.summary v → includes c.self.inside.class (united c.self.inside.class c.self.inside.summary c.other.inside.summary) v
takes c = elim c.if-has_values.branch [
  | then-has_values w ↦ λ v some within. subst (λ (s : AnySummary). includes c.self.inside.class s v) w.union-grown.ensures.widened (w.union-grown.ensures.includes_the_others v within)
  | else-has_values w ↦ λ v some within. absurd (false≢true (sym w.if-has_values.false ∙ c.has_values.ensures ∙ some))
]

pub returns-clause-keeps_what_it_included : goal.returns-clause-keeps_what_it_included
returns-clause-keeps_what_it_included c = λ row within.
    let column : IndexedColumn = record { place = c.self.inside.place; class = c.self.inside.class; state = c.self.inside.state; summary = c.self.inside.summary } in
    let other : IndexedColumn = record { place = c.other.inside.place; class = c.other.inside.class; state = c.other.inside.state; summary = c.other.inside.summary } in
    let new : IndexedColumn = record { place = c.if-has_values.self-inside.place; class = c.if-has_values.self-inside.class; state = c.of-self-inside.result; summary = c.if-has_values.self-inside.summary } in
    let widened : new ≡ united_column column other = search rules in
    subst (ColumnIncludes row) (sym widened) (row_kept column other (keeps c) row (subst (ColumnIncludes row) (sym c.self.view_is) within))

pub returns-clause-includes_the_others : goal.returns-clause-includes_the_others
returns-clause-includes_the_others c = λ row within.
    let column : IndexedColumn = record { place = c.self.inside.place; class = c.self.inside.class; state = c.self.inside.state; summary = c.self.inside.summary } in
    let other : IndexedColumn = record { place = c.other.inside.place; class = c.other.inside.class; state = c.other.inside.state; summary = c.other.inside.summary } in
    let new : IndexedColumn = record { place = c.if-has_values.self-inside.place; class = c.if-has_values.self-inside.class; state = c.of-self-inside.result; summary = c.if-has_values.self-inside.summary } in
    let widened : new ≡ united_column column other = search rules in
    let part : part_of other ≡ part_of column = ap part_of c.other.view_is ∙ c.requires ∙ ap part_of (sym c.self.view_is) in
    let place : other.place ≡ column.place = ap (λ (p : ℕ × AnyClass). p.0) part in
    let class : other.class ≡ column.class = ap (λ (p : ℕ × AnyClass). p.1) part in
    subst (ColumnIncludes row) (sym widened)
    (row_taken column other place (λ v some inc. takes c v some (subst (λ (a : AnyClass). includes a c.other.inside.summary v) class inc)) row (subst (ColumnIncludes row) (sym c.other.view_is) within))
