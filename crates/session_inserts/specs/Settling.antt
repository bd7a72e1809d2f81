-- what came of a step, where what is left of its statement is in hand again
use Rattle.std.specs.Prelude.{◌≡◌, ℕ, Option, Result}
use Rattle.disk_trait.specs.Told.{Told}
use Rattle.session_parts.specs.declared.faults.Step.{Step}
use Rattle.session_parts.specs.declared.faults.StoreFault.{StoreFault}
use Rattle.session_parts.specs.declared.hand.Hand.{Hand}
use Rattle.session_parts.specs.declared.hand.Stepped.{Stepped}
use Rattle.session_parts.specs.declared.parts.Parts.{Parts}
use Rattle.session_parts.specs.StepIs.{answer_of, hand_after}
use Rattle.session_parts.specs.UndoneLaws.{StepsSo}

-- A step of session n's statement came to something that keeps all that a step promises: this is left in hand, and this is the answer.
pub record SettlesSo {D : Type 0} (told : D → Told) (old new : Parts D) (n : ℕ) (hand : Hand) (left : Option Hand) (answer : Result Step StoreFault) : Type 0 where
  pub stepped : Stepped
  pub so : StepsSo told old new n hand stepped
  pub left_is : left ≡ hand_after stepped
  pub answer_is : answer ≡ answer_of stepped
