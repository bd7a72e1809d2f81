-- what a line's submission and a step of it come to
use Rattle.std.specs.Prelude.{◌≡◌, ℕ, List, [], ◌∷◌, ◌++◌, slice_set, None, Some}
use Rattle.disk_trait.specs.Told.{Told}
use Rattle.block_model.specs.declared.reply.Point.{Point}
use Rattle.block_model.specs.declared.reply.Refusal.{Refusal}
use Rattle.block_model.specs.declared.reply.Reply.{Reply}
use Rattle.block_model.specs.declared.reply.Reply.TheVariants as replies
use Rattle.demo_script.specs.declared.answer.Answer.TheVariants as answers
use Rattle.io_traits.specs.declared.stepper.Turn.{Turn}
use Rattle.io_traits.specs.declared.stepper.Turn.TheVariants.{Moved, Done, Blocked, Ended}
use Rattle.reply_texts.specs.declared.dropped.Dropped.{Dropped}
use Rattle.reply_texts.specs.DroppedTexts.{dropped_text}
use Rattle.reply_texts.specs.Texts.{reply_text}
use Rattle.script_run.specs.declared.engine.AnswerFault.{AnswerFault}
use Rattle.script_run.specs.declared.engine.AnswerFault.TheVariants as faults
use Rattle.store_layout.specs.declared.statement.Statement.{Statement}
use Rattle.script_semantics.specs.LineTexts.{Submits, dropped_at}
use Rattle.script_semantics.specs.Place.{Place}
use Rattle.transcript_laws.specs.Schedule.{entry_of}
use Rattle.plain_script.specs.HeldScripts.{HeldScript}
use Rattle.session_parts.specs.ShowsPlace.{ShowsPlace}
use Rattle.session_parts.specs.StoreStates.{StoreState, hand_at}
use Rattle.session_orders.specs.Leading.{PlacesLead, PlacesStop}
use Rattle.session_orders.specs.OneStep.{LeavesTables, TellsRoom}
use Rattle.session_orders.specs.Orders.{IsNotMade, StepsSo}
use Rattle.session_stepper.specs.declared.ending.Ending.{Ending}
use Rattle.session_stepper.specs.declared.ending.Ending.TheVariants as endings
use Rattle.session_stepper.specs.TranscribedState.{IsAtWork, IsOpenNext, TranscribedState, name_in}

-- of the script only a statement was taken out, perhaps
abbrev pub IsSameScript : (old new : HeldScript) → Type 0
IsSameScript old new = new.script ≡ old.script

-- It had ended before; nothing is changed.
pub record IsOver {D : Type 0} (s s' : TranscribedState D) : Type 0 where
  pub why : Ending
  pub was : s.ended ≡ Some why
  pub same : s' ≡ s

-- The call was out of place, which is the end; nothing else is changed.
pub record IsOutOfPlace {D : Type 0} (s s' : TranscribedState D) : Type 0 where
  pub was : s.ended ≡ None
  pub same : s' ≡ record s { ended = Some endings.OutOfPlace }

-- What a submission of the line of that number by session n comes to. The statement is taken, and in hand then; or it is refused, and the refusal's text is
-- kept, or lost for want of memory. It is out of place where that isn't the session's next line, or one is in hand.
pub data IsSubmitted {D : Type 0} (told : D → Told) (s s' : TranscribedState D) (n number : ℕ) : Turn → Type 0 where
  WasOver : IsOver s s' → IsSubmitted told s s' n number Ended
  NotNext : IsOutOfPlace s s' → ((statement : Statement) → IsOpenNext s n number statement → ⊥) → IsSubmitted told s s' n number Ended
  Takes : (statement : Statement) → s.ended ≡ None → IsOpenNext s n number statement → PlacesLead told s.store s'.store (λ p q. Submits p n statement None q) → IsSameScript s.script s'.script
      → s' ≡ record s { store = s'.store; script = s'.script; in_hand = slice_set s.in_hand n (Some number) } → IsSubmitted told s s' n number Moved
  Refuses : (statement : Statement) (refusal : Refusal) → s.ended ≡ None → IsOpenNext s n number statement → hand_at s.store n ≡ None → PlacesLead told s.store s'.store (λ p q. Submits p n statement (Some refusal) q) → IsSameScript s.script s'.script
      → s' ≡ record s { store = s'.store; script = s'.script; said = s.said ++ entry_of n number (reply_text (name_in s n) (replies.Refused refusal)) ∷ [] } → IsSubmitted told s s' n number Done
  LosesRefusal : (statement : Statement) (refusal : Refusal) → s.ended ≡ None → IsOpenNext s n number statement → PlacesLead told s.store s'.store (λ p q. Submits p n statement (Some refusal) q) → IsSameScript s.script s'.script
      → LeavesTables told s.store s'.store n → s' ≡ record s { store = s'.store; script = s'.script; ended = Some endings.Memory } → IsSubmitted told s s' n number Ended

-- these are the requests that session n's statement has asked for in vain, as each place that the store shows tells them
abbrev pub AreDroppedAt : {D : Type 0} → StoreState D → ℕ → List Dropped → Type 0
AreDroppedAt store n dropped = (p : Place) → ShowsPlace store p → dropped ≡ dropped_at p n

-- how a fault of a step ends all; no step is told as want of memory
abbrev pub ending_of : AnswerFault → Ending
ending_of faults.Memory = endings.Memory
ending_of faults.Full = endings.Spent
ending_of faults.Disk = endings.Disk
ending_of faults.Damaged = endings.Damaged

-- What a step of the line that session n has in hand comes to. It goes on, or waits; or it ends with a reply, whose text is kept behind the dropped requests,
-- or lost for want of memory; or it isn't made, for a fault. It is out of place where no line is in hand.
pub data IsAdvanced {D : Type 0} (told : D → Told) (s s' : TranscribedState D) (n : ℕ) : Turn → Type 0 where
  WasOver : IsOver s s' → IsAdvanced told s s' n Ended
  NothingInHand : IsOutOfPlace s s' → ((number : ℕ) → IsAtWork s n number → ⊥) → IsAdvanced told s s' n Ended
  GoesOn : (number : ℕ) (point : Point) → s.ended ≡ None → IsAtWork s n number → PlacesLead told s.store s'.store (StepsSo n (answers.Moved point))
      → s' ≡ record s { store = s'.store } → IsAdvanced told s s' n Moved
  Waits : (number : ℕ) (refusal : Refusal) → s.ended ≡ None → IsAtWork s n number → PlacesLead told s.store s'.store (StepsSo n (answers.Refused refusal))
      → s' ≡ record s { store = s'.store } → IsAdvanced told s s' n Blocked
  Answers : (number : ℕ) (reply : Reply) (dropped : List Dropped) → s.ended ≡ None → IsAtWork s n number → PlacesLead told s.store s'.store (StepsSo n (answers.Ended reply)) → AreDroppedAt s'.store n dropped
      → s' ≡ record s { store = s'.store; said = s.said ++ entry_of n number (dropped_text dropped ++ reply_text (name_in s n) reply) ∷ []; in_hand = slice_set s.in_hand n None } → IsAdvanced told s s' n Done
  LosesReply : (number : ℕ) (reply : Reply) → s.ended ≡ None → IsAtWork s n number → PlacesLead told s.store s'.store (StepsSo n (answers.Ended reply)) → LeavesTables told s.store s'.store n
      → s' ≡ record s { store = s'.store; ended = Some endings.Memory } → IsAdvanced told s s' n Ended
  Stops : (number : ℕ) (fault : AnswerFault) → s.ended ≡ None → IsAtWork s n number → PlacesStop told s.store s'.store n fault (IsNotMade n fault) → TellsRoom s'.store n fault
      → s' ≡ record s { store = s'.store; ended = Some (ending_of fault) } → IsAdvanced told s s' n Ended
