use Rattle.std.proofs.Common.{◌≡◌, ◌&&◌, Bool, true, false, List, sym, ap, ◌∙◌, subst}
use Rattle.std.proofs.lemmas.Bool.{or_parts, true≢false}
use Rattle.block_model.specs.declared.row.Cond.{Cond}
use Rattle.opclass_api.specs.Conditions.{meets_all}
use Rattle.range_tuple.specs.GatheredKeys.{has_asked}
use Rattle.range_tuple.proofs.AskingColumns.{allows_asked, misses, none_may_match, none_there}
use Rattle.range_tuple.proofs.column.TupleColumn.allows_asked.Goals as goal

pub returns-then-may_match-clause-answer : goal.returns-then-may_match-clause-answer
returns-then-may_match-clause-answer c = λ conds is.
    let asked = c.args.asked in
    let column = c.args.self.now in
    c.has_asked.ensures ∙ ap (λ (b : Bool). b && has_asked column.state asked.nulls asked.values) (sym c.if-may_match.true ∙ c.may_match-may_match.ensures.answer)
    ∙ sym (allows_asked column conds asked.comparisons.now asked.nulls asked.values is)

pub returns-then-may_match-clause-misses_no_match :
    goal.returns-then-may_match-clause-misses_no_match
returns-then-may_match-clause-misses_no_match c = λ none conds is row within.
    let asked = c.args.asked in
    let column = c.args.self.now in
    let out = none_there column conds asked.comparisons.now asked.nulls asked.values is (sym c.has_asked.ensures ∙ none) in
    misses column true conds (λ never some v has. absurd (true≢false never)) out row within

pub returns-else-may_match-clause-answer : goal.returns-else-may_match-clause-answer
returns-else-may_match-clause-answer c = λ conds is.
    let asked = c.args.asked in
    let column = c.args.self.now in
    c.if-may_match.false ∙ ap (λ (b : Bool). b && has_asked column.state asked.nulls asked.values) (sym c.if-may_match.false ∙ c.may_match-may_match.ensures.answer)
    ∙ sym (allows_asked column conds asked.comparisons.now asked.nulls asked.values is)

pub returns-else-may_match-clause-misses_no_match :
    goal.returns-else-may_match-clause-misses_no_match
returns-else-may_match-clause-misses_no_match c = λ none conds is row within.
    let asked = c.args.asked in
    let column = c.args.self.now in
    let some = (or_parts _ _ (sym c.may_match-may_match.ensures.answer ∙ none)).0 in
    misses column false conds
    (λ never there v has. subst (λ (cs : List Cond). meets_all cs v ≡ false) is.comparisons_on (c.may_match-may_match.ensures.misses_no_match none there v has))
    (none_may_match column conds asked.comparisons.now asked.nulls asked.values is some)
    row within
