use Rattle.std.proofs.Common.{refl, sym, ◌∙◌, true≢false}
use Rattle.std.proofs.lemmas.Result.{IfOk-weaker, IfErr-weaker}
use Rattle.command_line.proofs.DemoLemmas.{read_number, read_nothing, demo_given, no_seed, no_rows, demo_declares}
use Rattle.command_line.proofs.command.demo_in.Goals as goal

pub returns-in_default-clause-usage : goal.returns-in_default-clause-usage
returns-in_default-clause-usage c = λ u said s. no_seed said (read_nothing _ (sym c.in_default.is ∙ c.number_in.ensures said s refl))

pub returns-in_default-number_in-clause-usage : goal.returns-in_default-number_in-clause-usage
returns-in_default-number_in-clause-usage c = λ u said s.
    no_rows said _ (read_number _ _ (sym c.in-Some.is ∙ c.number_in.ensures said s refl)) (read_nothing _ (sym c.in_default-number_in.is ∙ c.number_in-2.ensures said s refl))

pub returns-then-not-declares_nothing-clause-usage :
    goal.returns-then-not-declares_nothing-clause-usage
returns-then-not-declares_nothing-clause-usage c = λ u said s.
    demo_declares said _ _ (read_number _ _ (sym c.in-Some.is ∙ c.number_in.ensures said s refl)) (read_number _ _ (sym c.in-Some-number_in.is ∙ c.number_in-2.ensures said s refl))
    (λ d. true≢false (sym ((c.declares_nothing.ensures said s).1 d) ∙ c.if-not-declares_nothing.true))

pub returns-clause-ok : goal.returns-clause-ok
returns-clause-ok c = IfOk-weaker c.demo_of.result _ _ (λ v h. λ said s.
    demo_given said _ _ _ (read_number _ _ (sym c.in-Some.is ∙ c.number_in.ensures said s refl)) (read_number _ _ (sym c.in-Some-number_in.is ∙ c.number_in-2.ensures said s refl))
    ((c.declares_nothing.ensures said s).0 c.if-not-declares_nothing.false) h) c.demo_of.ensures.ok

pub returns-clause-usage : goal.returns-clause-usage
returns-clause-usage c = IfErr-weaker c.demo_of.result _ _ (λ v h. λ u said s.
    demo_given said _ _ _ (read_number _ _ (sym c.in-Some.is ∙ c.number_in.ensures said s refl)) (read_number _ _ (sym c.in-Some-number_in.is ∙ c.number_in-2.ensures said s refl))
    ((c.declares_nothing.ensures said s).0 c.if-not-declares_nothing.false) h) c.demo_of.ensures.usage
