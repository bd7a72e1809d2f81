-- what comes of a step of a statement where it stands
use Rattle.std.proofs.Common.{◌≡◌, ℕ, Option, Some, IfSome, Result, Ok, Err, refl, sym, subst}
use Rattle.disk_trait.specs.Told.{Told}
use Rattle.session_parts.specs.declared.faults.Step.{Step}
use Rattle.session_parts.specs.declared.faults.Step.TheVariants as steps
use Rattle.session_parts.specs.declared.faults.StoreFault.{StoreFault}
use Rattle.session_parts.specs.declared.hand.Hand.{Hand}
use Rattle.session_parts.specs.declared.parts.Parts.{Parts}
use Rattle.session_parts.specs.StepIs.{answer_of, hand_after}
use Rattle.session_parts.specs.StepIs.{stepped_in}
use Rattle.session_parts.specs.UndoneLaws.{StepsSo}
use Rattle.session_inserts.specs.Settling.{SettlesSo}

pub answer_there : (now : Hand) (answer : Result Step StoreFault) → answer ≡ answer_of (stepped_in now answer)
answer_there now (Ok (steps.Moved point)) = refl
answer_there now (Ok (steps.Done reply)) = refl
answer_there now (Ok (steps.Blocked what by)) = refl
answer_there now (Err fault) = refl

-- what the step leaves is in hand, or behind its reply nothing
pub settles_there : {D : Type 0} (told : D → Told) (old new : Parts D) (n : ℕ) (hand : Option Hand) (was now : Hand) (left : Option Hand) (answer : Result Step StoreFault) → hand ≡ Some was
    → StepsSo told old new n was (stepped_in now answer) → left ≡ hand_after (stepped_in now answer) → IfSome hand (λ was. SettlesSo told old new n was left answer)
settles_there told old new n hand was now left answer is so left_is = subst (λ (h : Option Hand). IfSome h (λ was. SettlesSo told old new n was left answer)) (sym is)
    (record { stepped = stepped_in now answer; so = so; left_is = left_is; answer_is = answer_there now answer })
