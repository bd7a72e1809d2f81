-- what one step of a session leaves of the sessions and of the images, whatever comes of it
use Rattle.std.specs.Prelude.{◌≡◌, ◌≢◌, ℕ, Bool, true, false, Option, Some, Result, Ok}
use Rattle.std.specs.Option.{is_some}
use Rattle.disk_trait.specs.Told.{Told}
use Rattle.demo_script.specs.declared.answer.Answer.{Answer}
use Rattle.demo_script.specs.declared.answer.Answer.TheVariants as answers
use Rattle.script_run.specs.declared.engine.AnswerFault.{AnswerFault}
use Rattle.script_run.specs.declared.engine.AnswerFault.TheVariants.{Full}
use Rattle.script_semantics.specs.Place.{Place}
use Rattle.session_parts.specs.declared.hand.Hand.{Hand}
use Rattle.session_parts.specs.Hands.{statement_of}
use Rattle.session_parts.specs.ShowsPlace.{ShowsPlace}
use Rattle.session_parts.specs.StepAnswers.{IsSpentFor}
use Rattle.session_parts.specs.StoreStates.{StoreState, hand_at}
use Rattle.session_core.specs.StopRule.{AllHaveTable}
use Rattle.transactions.specs.StopLaws.{EachImage}
use Rattle.session_orders.specs.CrashRule.{HasTableOf}

-- a statement stays in hand until its reply
abbrev pub stays_in_hand : Result Answer AnswerFault → Bool
stays_in_hand (Ok (answers.Ended reply)) = false
stays_in_hand result = true

-- no step is answered as a start
abbrev pub IsOfStep : Answer → Type 0
IsOfStep answers.Started = ⊥
IsOfStep answer = Unit {0}

-- whether session n has its statement in hand then; each other session has in hand what it had
pub record LeavesHands {D : Type 0} (s s' : StoreState D) (n : ℕ) (result : Result Answer AnswerFault) : Type 0 where
  pub own : is_some (hand_at s' n) ≡ stays_in_hand result
  pub others : (m : ℕ) → m ≢ n → hand_at s' m ≡ hand_at s m

-- the journal has no room for what a step of the statement that session n has in hand may enter
pub record LacksRoomFor {D : Type 0} (s : StoreState D) (n : ℕ) : Type 0 where
  pub hand : Hand
  pub in_hand : hand_at s n ≡ Some hand
  pub spent : IsSpentFor s (statement_of hand)

-- so it is, on any disk, where the step isn't made for want of room
abbrev pub TellsRoom : {D : Type 0} → StoreState D → ℕ → AnswerFault → Type 0
TellsRoom s n Full = LacksRoomFor s n
TellsRoom s n fault = Unit {0}

-- Behind the step each image has the table of the place that the store showed, or that with the commit which session n had in hand there, where each had that table.
abbrev pub LeavesTables : {D : Type 0} → (D → Told) → (s s' : StoreState D) → (n : ℕ) → Type 0
LeavesTables told s s' n = (p : Place) → ShowsPlace s p → AllHaveTable told s.pages p → EachImage told s'.pages (HasTableOf p n)
