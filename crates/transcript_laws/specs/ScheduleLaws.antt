-- Whatever the order, what a schedule has told is a right transcript.
use Rattle.std.specs.Prelude.{◌≡◌, ◌⊎◌, ℕ, List, [], All, None, Some}
use Rattle.block_model.specs.declared.reply.Reply.{Reply}
use Rattle.block_model.specs.declared.schema.Schema.{Schema}
use Rattle.block_model.specs.DatabaseState.{DatabaseState}
use Rattle.store_layout.specs.DiskLayout.{DiskLayout}
use Rattle.store_layout.specs.FirstBrokenRule.{first_broken_rule}
use Rattle.store_layout.specs.StatementFits.{IsStatementFor}
use Rattle.model_laws.specs.NoRowRemovedTwice.{IsOpening}
use Rattle.script_laws.specs.Reached.{IsReached}
use Rattle.script_semantics.specs.LineTexts.{dropped_at}
use Rattle.script_semantics.specs.Place.{Hand, Place, database_at}
use Rattle.script_semantics.specs.RequestSteps.{IsAnsweredInPlace}
use Rattle.script_semantics.specs.StatementSteps.{Ended, IsInsert, StepsTo}
use Rattle.transcripts.specs.Transcript.{IsTranscript, Line, Said, next_statement}
use Rattle.transcript_laws.specs.Ahead.{IsAhead}
use Rattle.transcript_laws.specs.Schedule.{Schedule}
use Rattle.transcript_laws.specs.StepLaws.{limits_of}

-- wherever a script comes, the answers of each statement in hand fit what it is at
abbrev pub AnswersAreInPlace : Type 0
AnswersAreInPlace = (layout : DiskLayout) (p : Place) (n : ℕ) (hand : Hand) → first_broken_rule layout.schema layout.sizes ≡ None → IsReached layout p → p.hands n ≡ Some hand → IsAnsweredInPlace p n hand

-- a statement that ends has dropped no request, unless it is an insert
abbrev pub OnlyInsertsDrop : Type 0
OnlyInsertsDrop = (layout : DiskLayout) (p q : Place) (n : ℕ) (hand : Hand) (reply : Reply) → first_broken_rule layout.schema layout.sizes ≡ None → IsReached layout p → p.hands n ≡ Some hand
    → StepsTo p n hand (Ended reply) q → IsInsert hand.statement ⊎ (dropped_at q n ≡ [])

-- each line says a statement that fits
abbrev pub FitsSchema : Schema → List Line → Type 0
FitsSchema schema script = All (λ (line : Line). IsStatementFor schema line.statement) script

-- a schedule comes where a script may
abbrev pub SchedulesAreReached : Type 0
SchedulesAreReached = (layout : DiskLayout) (names : List (List ℕ)) (script : List Line) (opening : DatabaseState) (said : List Said) (p : Place) → FitsSchema layout.schema script
    → Schedule layout names script opening said p → IsReached layout p

-- What a schedule has told is a right transcript. The table of the requests so far is the one that it leads to, and their database is ahead of it by the statements in hand.
pub record IsRightlyTold (layout : DiskLayout) (names : List (List ℕ)) (script : List Line) (opening : DatabaseState) (said : List Said) (p : Place) : Type 0 where
  pub s : DatabaseState
  pub right : IsTranscript (limits_of layout) names script opening said s
  pub table : (database_at p).table ≡ s.table
  pub ahead : IsAhead (next_statement script said) p.hands (database_at p) s

abbrev pub SchedulesAreTranscripts : Type 0
SchedulesAreTranscripts = (layout : DiskLayout) (names : List (List ℕ)) (script : List Line) (opening : DatabaseState) (said : List Said) (p : Place) → first_broken_rule layout.schema layout.sizes ≡ None
    → FitsSchema layout.schema script → IsOpening opening → Schedule layout names script opening said p → IsRightlyTold layout names script opening said p
