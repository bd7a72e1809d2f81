-- Each step of a statement in hand keeps the journal ahead of the transcript, or tells the transcript its next entry.
use Rattle.std.specs.Prelude.{◌≡◌, ℕ, List, Option, Some}
use Rattle.block_model.specs.declared.reply.Reply.{Reply}
use Rattle.block_model.specs.declared.request.Entry.{Entry}
use Rattle.block_model.specs.DatabaseState.{DatabaseState}
use Rattle.block_model.specs.SerialRun.{serial_run}
use Rattle.store_layout.specs.declared.statement.Statement.{Statement}
use Rattle.store_layout.specs.HeapRoom.{full_table}
use Rattle.store_layout.specs.DiskLayout.{DiskLayout}
use Rattle.model_laws.specs.NoRowRemovedTwice.{IsOpening}
use Rattle.script_semantics.specs.Place.{Hand, updated}
use Rattle.script_semantics.specs.RequestSteps.{RequestStep}
use Rattle.script_semantics.specs.StatementSteps.{Outcome, Moved, Ended, Waits, full_index, numbers_of}
use Rattle.transcripts.specs.Told.{Limits, Tells}
use Rattle.transcript_laws.specs.Ahead.{IsAhead}
use Rattle.transcript_laws.specs.Laws.{NextStays}

-- what is full in a store of this layout
abbrev pub limits_of : DiskLayout → Limits
limits_of layout = record { table_full = full_table layout; index_full = full_index layout; numbers = numbers_of layout }

-- The transcript tells that session n's statement is answered so; and the journal's database d is ahead of it then, with these in hand, whatever the session tells next.
abbrev pub IsAnswered : Limits → (ℕ → Option Statement) → (ℕ → Option Hand) → DatabaseState → DatabaseState → ℕ → Statement → Reply → Type 0
IsAnswered limits next hands d s n statement reply =
    (after : DatabaseState) × Tells limits next s n statement reply after × ((next' : ℕ → Option Statement) → NextStays next next' n → IsAhead next' hands d after)

-- What a step of session n's statement makes of the transcript, where the journal's database is d behind it and these are in hand: an answer is told, and anything else leaves it.
abbrev pub IsTold : Limits → (ℕ → Option Statement) → (ℕ → Option Hand) → DatabaseState → DatabaseState → ℕ → Statement → Outcome → Type 0
IsTold limits next hands d s n statement (Moved point) = IsAhead next hands d s
IsTold limits next hands d s n statement (Ended reply) = IsAnswered limits next hands d s n statement reply
IsTold limits next hands d s n statement (Waits refusal) = IsAhead next hands d s

-- each step, told without a table
abbrev pub StepsAreTold : Type 0
StepsAreTold = (layout : DiskLayout) (opening s : DatabaseState) (next : ℕ → Option Statement) (hands : ℕ → Option Hand) (n : ℕ) (hand : Hand) (hand' : Option Hand) (journal journal' : List Entry) (outcome : Outcome)
    → IsOpening opening → IsAhead next hands (serial_run opening journal) s → hands n ≡ Some hand → RequestStep layout opening n hand journal outcome hand' journal'
    → IsTold (limits_of layout) next (updated hands n hand') (serial_run opening journal') s n hand.statement outcome
