-- What holds of the lines and entries of a transcript, and of its conflicts.
use Rattle.std.specs.Prelude.{◌≡◌, ◌≢◌, ◌⊎◌, ℕ, ◌≤◌, false, true, List, [], ◌∷◌, ◌++◌, length, Option, None, Some}
use Rattle.block_model.specs.declared.reply.Refusal.TheVariants as refusals
use Rattle.block_model.specs.declared.reply.Reply.TheVariants as replies
use Rattle.block_model.specs.declared.row.Query.{Query}
use Rattle.block_model.specs.declared.row.Row.{Row}
use Rattle.block_model.specs.declared.row.RowId.{RowId}
use Rattle.block_model.specs.DatabaseState.{DatabaseState, OpenTransaction}
use Rattle.block_model.specs.RequestEffect.{is_conflict, is_own, rows_found}
use Rattle.store_layout.specs.declared.statement.Statement.{Statement}
use Rattle.store_layout.specs.declared.statement.Statement.TheVariants as statements
use Rattle.store_layout.specs.StatementRequests.{refusal_at}
use Rattle.transcripts.specs.Told.{IsSound, Limits, MayConflict, Tells}
use Rattle.transcripts.specs.Transcript.{IsNext, IsTranscript, Line, Said, entries_of, lines_of, next_statement}

-- an entry of one session changes nothing of what the others tell next
abbrev pub NextOfOthersStays : Type 0
NextOfOthersStays = (script : List Line) (said : List Said) (e : Said) (m : ℕ) → m ≢ e.session → next_statement script (said ++ e ∷ []) m ≡ next_statement script said m

-- a session's next line says what the session tells next
abbrev pub NextIsSaid : Type 0
NextIsSaid = (script : List Line) (said : List Said) (n number : ℕ) (statement : Statement) → IsNext script said n number statement → next_statement script said n ≡ Some statement

-- no session has more entries than lines
abbrev pub NoneSaidTwice : Type 0
NoneSaidTwice = (limits : Limits) (names : List (List ℕ)) (script : List Line) (opening s : DatabaseState) (said : List Said) (n : ℕ) → IsTranscript limits names script opening said s
    → length (entries_of n said) ≤ length (lines_of n script)

-- ---- conflicts

-- a row that the transaction finds and that isn't its own, and it must conflict, or may
pub record ConflictHasCause (next : ℕ → Option Statement) (s : DatabaseState) (n : ℕ) (q : Query) (id : RowId) : Type 0 where
  pub transaction : OpenTransaction
  pub sound : IsSound s n transaction
  pub before : List Row
  pub row : Row
  pub rest : List Row
  pub finds : rows_found transaction q ≡ before ++ row ∷ rest
  pub is : row.id ≡ id
  pub cause : (is_conflict s n transaction row.id ≡ true) ⊎ ((is_own transaction row.id ≡ false) × MayConflict next s n row.id)

-- no conflict is told without its cause
abbrev pub ConflictsHaveCauses : Type 0
ConflictsHaveCauses = (limits : Limits) (next : ℕ → Option Statement) (s after : DatabaseState) (n : ℕ) (q : Query) (id : RowId) → refusal_at s n (statements.Delete q) ≡ None
    → Tells limits next s n (statements.Delete q) (replies.Refused (refusals.Conflict id)) after → ConflictHasCause next s n q id
