-- a step of the statement that a hand holds
use Rattle.std.proofs.Common.{◌≡◌, ℕ, sym, subst}
use Rattle.disk_trait.specs.Told.{Told}
use Rattle.session_parts.specs.declared.hand.Cleaning.{Cleaning}
use Rattle.session_parts.specs.declared.hand.Hand.{Hand}
use Rattle.session_parts.specs.declared.hand.Hand.TheVariants as hands
use Rattle.session_parts.specs.declared.hand.Stepped.{Stepped}
use Rattle.session_parts.specs.declared.parts.Parts.{Parts}
use Rattle.session_parts.specs.Stepping.{IsFit, IsShown}
use Rattle.session_parts.specs.UndoneLaws.{StepsSo}

module _ {D : Type 0} (told : D → Told) (parts : Parts D) (n : ℕ) (hand was : Hand) (is : hand ≡ was) where
  pub fit_there : IsFit told parts n hand → IsFit told parts n was
  fit_there = subst (λ (h : Hand). IsFit told parts n h) is

  pub shown_there : IsShown told parts n hand → IsShown told parts n was
  shown_there = subst (λ (h : Hand). IsShown told parts n h) is

  pub so_there : (new : Parts D) (answer : Stepped) → StepsSo told parts new n was answer → StepsSo told parts new n hand answer
  so_there new answer = subst (λ (h : Hand). StepsSo told parts new n h answer) (sym is)

pub same_cleaning : {a b : Cleaning} → hands.Cleans a ≡ hands.Cleans b → a ≡ b
same_cleaning is = cc
