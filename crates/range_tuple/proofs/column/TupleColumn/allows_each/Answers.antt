use Rattle.std.proofs.Common.{◌≡◌, ◌==◌, ℕ, false, sym, ap, subst}
use Rattle.std.specs.List.{list_any}
use Rattle.block_model.specs.declared.row.Cond.{Cond}
use Rattle.opclass_api.specs.Conditions.{AllCompare}
use Rattle.range_tuple.specs.GatheredKeys.{IsAsked}
use Rattle.range_tuple.specs.Keeps.{may_meet}
use Rattle.range_tuple.specs.Tuples.{IndexedColumn}
use Rattle.range_tuple.proofs.AskingColumns.{all_compare, none_asked}
use Rattle.range_tuple.proofs.column.TupleColumn.allows_each.Goals as goal

pub returns-then-not-is_on_one-clause-answer : goal.returns-then-not-is_on_one-clause-answer
returns-then-not-is_on_one-clause-answer c =
    let column = c.args.self.now in
    let conds = c.args.conds.now in
    let place = ap (λ (it : IndexedColumn). it.place) c.self.view_is in
    let none = subst (λ (n : ℕ). list_any (λ (cond : Cond). cond.column == n) conds ≡ false) place (sym c.if-not-is_on_one.ensures) in
    sym (none_asked column (may_meet conds column) conds none)

pub allows_asked-requires : goal.allows_asked-requires
allows_asked-requires c = subst AllCompare (sym c.in-Some.ensures.comparisons_on) (all_compare c.self.inside.place c.args.conds.now)

pub returns-in-Some-clause-answer : goal.returns-in-Some-clause-answer
returns-in-Some-clause-answer c = c.allows_asked.ensures.answer c.args.conds.now (subst (λ (it : IndexedColumn). IsAsked it.place c.args.conds.now c.in-Some.asked.comparisons.now c.in-Some.asked.nulls c.in-Some.asked.values) c.self.view_is c.in-Some.ensures)

pub returns-in-Some-clause-misses_no_match : goal.returns-in-Some-clause-misses_no_match
returns-in-Some-clause-misses_no_match c = λ none. c.allows_asked.ensures.misses_no_match none c.args.conds.now (subst (λ (it : IndexedColumn). IsAsked it.place c.args.conds.now c.in-Some.asked.comparisons.now c.in-Some.asked.nulls c.in-Some.asked.values) c.self.view_is c.in-Some.ensures)
