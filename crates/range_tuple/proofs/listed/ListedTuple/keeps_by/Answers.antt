use Rattle.std.proofs.Common.{◌≡◌, All, true, sym, ap, ◌∙◌, subst}
use Rattle.std.specs.List.{list_all}
use Rattle.range_tuple.specs.TupleIncludes.{ColumnIncludes}
use Rattle.range_tuple.specs.Tuples.{Tuple, has_nothing}
use Rattle.range_tuple.proofs.ByPlace.{nothing_included}
use Rattle.range_tuple.proofs.listed.ListedTuple.keeps_by.Goals as goal

pub returns-then-not-have_nothing-clause-misses_no_match :
    goal.returns-then-not-have_nothing-clause-misses_no_match
returns-then-not-have_nothing-clause-misses_no_match c = λ none row all.
    let columns = c.deref-then-not-have_nothing.ensures.value ∙ ap (λ (t : Tuple). t.columns) c.self.view_is in
    c.all_allow.ensures.misses_no_match none row (subst (All (ColumnIncludes row)) (sym columns) all)

pub returns-else-not-have_nothing-clause-misses_no_match :
    goal.returns-else-not-have_nothing-clause-misses_no_match
returns-else-not-have_nothing-clause-misses_no_match c = λ none row all.
    let items = c.self.inside.columns.items.items in
    let nothing : list_all has_nothing items ≡ true = sym (c.if-not-have_nothing.ensures ∙ ap (list_all has_nothing) c.deref.ensures.value) in
    absurd (nothing_included items row c.self.invariant.some nothing (subst (All (ColumnIncludes row)) (sym (ap (λ (t : Tuple). t.columns) c.self.view_is)) all))
