use Rattle.script_semantics.proofs.RequestSteps.{Causes, steps_enter}
use Rattle.script_semantics.proofs.laws.a_step_enters.Goals as goal

pub returns : goal.returns
returns c = λ p q n hand outcome has fit step.
    let causes_are : Causes = record { memory = c.refusals_have_their_cause.ensures.memory; index = c.refusals_have_their_cause.ensures.index_full } in
    steps_enter p n hand causes_are outcome q has fit step
