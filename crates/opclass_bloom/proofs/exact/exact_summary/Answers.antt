use Rattle.std.proofs.Common.{◌≡◌, Bool, List, fold, sym, subst, ◌∙◌}
use Rattle.std.proofs.lemmas.Result.{IfOk-weaker}
use Rattle.block_model.specs.declared.value.Value.{Value}
use Rattle.opclass_bloom.specs.Bits.{nothing_set, with_value}
use Rattle.opclass_api.specs.SameValues.{HaveSameValues}
use Rattle.opclass_bloom.specs.ExactSummary.{ExactSummary}
use Rattle.opclass_bloom.proofs.Exactness.{exact_in_order, one_exact, exact_in_any_order}
use Rattle.opclass_bloom.proofs.exact.exact_summary.Goals as goal

pub returns-clause-exact : goal.returns-clause-exact
returns-clause-exact c =
    IfOk-weaker _ _ _ (λ s is. subst (ExactSummary c.args.class.now c.args.values.now) (sym is) (exact_in_order c.args.class.now c.args.values.now)) c.summary_of.ensures.added_in_order

pub returns-clause-no_other : goal.returns-clause-no_other
returns-clause-no_other c =
    let p = c.args.class.now in
    let values = c.args.values.now in
    let in_order = fold (with_value p) (nothing_set p) values in
    let only : (s : List Bool) → s ≡ in_order → (t : List Bool) → ExactSummary p values t → t ≡ s = λ s is t exact. one_exact p values in_order t (exact_in_order p values) exact ∙ sym is in
    IfOk-weaker _ _ _ only c.summary_of.ensures.added_in_order

pub returns-clause-any_order : goal.returns-clause-any_order
returns-clause-any_order c =
    let p = c.args.class.now in
    let values = c.args.values.now in
    let any : (s : List Bool) → s ≡ fold (with_value p) (nothing_set p) values → (others : List Value) → HaveSameValues values others → fold (with_value p) (nothing_set p) others ≡ s = λ s is others same. exact_in_any_order p values others same ∙ sym is in
    IfOk-weaker _ _ _ any c.summary_of.ensures.added_in_order
