-- Steps and submissions at a place, as a transcript tells them.
use Rattle.std.specs.Prelude.{◌≡◌, ℕ, Option, None, Some}
use Rattle.block_model.specs.declared.reply.Refusal.{Refusal}
use Rattle.block_model.specs.declared.reply.Reply.TheVariants as replies
use Rattle.block_model.specs.DatabaseState.{DatabaseState}
use Rattle.store_layout.specs.declared.statement.Statement.{Statement}
use Rattle.model_laws.specs.NoRowRemovedTwice.{IsOpening}
use Rattle.script_semantics.specs.LineTexts.{Submits}
use Rattle.script_semantics.specs.Place.{Hand, Place, database_at}
use Rattle.script_semantics.specs.RequestSteps.{IsAnsweredInPlace}
use Rattle.script_semantics.specs.StatementSteps.{Outcome, StepsTo}
use Rattle.transcript_laws.specs.Ahead.{IsAhead}
use Rattle.transcript_laws.specs.StepLaws.{IsAnswered, IsTold, limits_of}

-- each step at a place, where the answers are in place
abbrev pub PlacesAreTold : Type 0
PlacesAreTold = (p q : Place) (s : DatabaseState) (next : ℕ → Option Statement) (n : ℕ) (hand : Hand) (outcome : Outcome) → IsOpening p.opening → IsAhead next p.hands (database_at p) s
    → p.hands n ≡ Some hand → IsAnsweredInPlace p n hand → StepsTo p n hand outcome q → IsTold (limits_of p.layout) next q.hands (database_at q) s n hand.statement outcome

-- A statement that is taken leaves the transcript, where it is what its session tells next.
abbrev pub TakenIsAhead : Type 0
TakenIsAhead = (p q : Place) (s : DatabaseState) (next : ℕ → Option Statement) (n : ℕ) (statement : Statement) → IsAhead next p.hands (database_at p) s → p.hands n ≡ None
    → next n ≡ Some statement → Submits p n statement None q → IsAhead next q.hands (database_at q) s

-- One that is refused is told so.
abbrev pub RefusedIsTold : Type 0
RefusedIsTold = (p q : Place) (s : DatabaseState) (next : ℕ → Option Statement) (n : ℕ) (statement : Statement) (refusal : Refusal) → IsAhead next p.hands (database_at p) s → p.hands n ≡ None
    → Submits p n statement (Some refusal) q → IsAnswered (limits_of p.layout) next q.hands (database_at q) s n statement (replies.Refused refusal)
