use Rattle.script_semantics.proofs.RequestSteps.{Causes}
use Rattle.session_parts.proofs.AnsweredHands.{at_its_marks, in_place}
use Rattle.session_parts.proofs.laws_answers.answers_are_in_place.Goals as goal

pub returns-clause-marks : goal.returns-clause-marks
returns-clause-marks c = λ s p n query answers shown below has some.
    let causes_are : Causes = record { memory = c.refusals_have_their_cause.ensures.memory; index = c.refusals_have_their_cause.ensures.index_full } in
    at_its_marks s p n shown causes_are query answers below has some

pub returns-clause-place : goal.returns-clause-place
returns-clause-place c = λ s p n hand shown fits has. in_place s p n shown hand fits has
