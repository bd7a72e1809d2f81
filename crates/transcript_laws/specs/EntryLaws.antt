-- How a transcript begins, and goes on by an answer.
use Rattle.std.specs.Prelude.{◌≡◌, ℕ, List, [], ◌∷◌, ◌++◌, slice_index_or, Option, None}
use Rattle.block_model.specs.declared.reply.Reply.{Reply}
use Rattle.block_model.specs.DatabaseState.{DatabaseState}
use Rattle.store_layout.specs.declared.statement.Statement.{Statement}
use Rattle.script_semantics.specs.Place.{Hand}
use Rattle.transcripts.specs.Told.{Limits}
use Rattle.transcripts.specs.Transcript.{IsNext, IsTextOf, IsTranscript, Line, Said, next_statement}
use Rattle.transcript_laws.specs.Ahead.{IsAhead}
use Rattle.transcript_laws.specs.StepLaws.{IsAnswered}

-- with nothing in hand each database is ahead of itself
abbrev pub BeginsAhead : Type 0
BeginsAhead = (next : ℕ → Option Statement) (hands : ℕ → Option Hand) (s : DatabaseState) → ((n : ℕ) → hands n ≡ None) → IsAhead next hands s s

-- The answer to a session's next line makes one entry more: the transcript stays right, and the journal ahead of it.
abbrev pub AnswersAreEntries : Type 0
AnswersAreEntries = (limits : Limits) (names : List (List ℕ)) (script : List Line) (opening d s : DatabaseState) (said : List Said) (hands : ℕ → Option Hand) (e : Said) (statement : Statement) (reply : Reply)
    → IsTranscript limits names script opening said s → IsNext script said e.session e.line statement → IsTextOf (slice_index_or names e.session []) reply statement e.text
    → IsAnswered limits (next_statement script said) hands d s e.session statement reply
    → (after : DatabaseState) × IsTranscript limits names script opening (said ++ e ∷ []) after × IsAhead (next_statement script (said ++ e ∷ [])) hands d after
