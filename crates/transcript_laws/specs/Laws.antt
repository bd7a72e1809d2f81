-- How conflicts of the journal are those of the transcript.
use Rattle.std.specs.Prelude.{◌≡◌, ◌≢◌, ◌⊎◌, ◌<◌, if◌then◌else◌, ℕ, true, false, List, [], ◌∷◌, ◌++◌, length, Option, None, Some}
use Rattle.std.specs.FinMap as map
use Rattle.block_model.specs.declared.reply.Refusal.TheVariants as refusals
use Rattle.block_model.specs.declared.reply.Reply.TheVariants as replies
use Rattle.block_model.specs.declared.request.Entry.{Entry}
use Rattle.block_model.specs.declared.request.Request.TheVariants as requests
use Rattle.block_model.specs.declared.request.Tag.TheVariants as tags
use Rattle.block_model.specs.declared.row.Query.{Query}
use Rattle.block_model.specs.declared.row.Row.{Row}
use Rattle.block_model.specs.declared.row.RowId.{RowId}
use Rattle.block_model.specs.declared.value.Value.{Value}
use Rattle.block_model.specs.DatabaseState.{DatabaseState, OpenTransaction}
use Rattle.block_model.specs.RequestEffect.{Found, after_begin, after_commit, after_failure, after_put, after_request, failed_transaction, is_conflict, is_own, next_row, reply_to, rows_found, with_transaction, without_transaction}
use Rattle.store_layout.specs.declared.statement.Statement.{Statement}
use Rattle.store_layout.specs.declared.statement.Statement.TheVariants as statements
use Rattle.store_layout.specs.StatementRequests.{look_entry, mark_entry, refusal_at, request_entry, tagged_entry}
use Rattle.model_laws.specs.MarksAreApart.{AreMarksApart}
use Rattle.script_semantics.specs.Place.{Hand, updated}
use Rattle.transcript_laws.specs.Ahead.{IsAhead, answers_marked}
use Rattle.transcripts.specs.Told.{AreFree, IsSound, Limits, MayConflict, Tells, marked}

-- The rows that a delete in hand has marked, by the journal, must not conflict by the transcript: the other sessions' marks there are some of those that they have.
abbrev pub MarkedRowsAreFree : Type 0
MarkedRowsAreFree = (next : ℕ → Option Statement) (hands : ℕ → Option Hand) (d s : DatabaseState) (n : ℕ) (x : OpenTransaction) (rows : List Row) → IsAhead next hands d s → AreMarksApart d
    → map.get d.sessions n ≡ Some (marked x rows) → AreFree s n x rows

-- A row that conflicts by the journal must conflict by the transcript, or may: then the session that marked it has a delete in hand, which is its next statement and finds the row.
abbrev pub ConflictsAreTold : Type 0
ConflictsAreTold = (next : ℕ → Option Statement) (hands : ℕ → Option Hand) (d s : DatabaseState) (n : ℕ) (x y : OpenTransaction) (id : RowId) → IsAhead next hands d s → y.t ≡ x.t
    → is_conflict d n y id ≡ true → (is_conflict s n x id ≡ true) ⊎ ((is_own x id ≡ false) × MayConflict next s n id)

-- ---- what each event owes and gives

-- no entry of session n changes what the others tell next
abbrev pub NextStays : (old new : ℕ → Option Statement) → ℕ → Type 0
NextStays old new n = (m : ℕ) → m ≢ n → new m ≡ old m

-- The journal enters an insert's put: it is ahead by the row.
abbrev pub PutsStayAhead : Type 0
PutsStayAhead = (next : ℕ → Option Statement) (hands : ℕ → Option Hand) (d s : DatabaseState) (n table : ℕ) (values : List Value) → IsAhead next hands d s
    → hands n ≡ Some (record { statement = statements.Insert table values; answers = [] })
    → IsAhead next (updated hands n (Some (record { statement = statements.Insert table values; answers = reply_to d (request_entry n table (requests.Put values)) ∷ [] })))
    (after_request d (request_entry n table (requests.Put values))) s

-- An insert whose row is put is answered: the transcript tells it, and the journal is ahead of it no more.
abbrev pub InsertsAreTold : Type 0
InsertsAreTold = (limits : Limits) (next next' : ℕ → Option Statement) (hands : ℕ → Option Hand) (d s : DatabaseState) (n table : ℕ) (values : List Value) (x : OpenTransaction) → IsAhead next hands d s
    → IsSound s n x → map.get d.sessions n ≡ Some (after_put x table values) → NextStays next next' n
    → Tells limits next s n (statements.Insert table values) (replies.Inserted (next_row x table values).id) (with_transaction s n (after_put x table values))
    × IsAhead next' (updated hands n None) d (with_transaction s n (after_put x table values))

-- A delete that has marked all that it finds is answered their number.
abbrev pub DeletesAreTold : Type 0
DeletesAreTold = (limits : Limits) (next next' : ℕ → Option Statement) (hands : ℕ → Option Hand) (d s : DatabaseState) (n : ℕ) (q : Query) (x : OpenTransaction) → IsAhead next hands d s → AreMarksApart d
    → IsSound s n x → map.get d.sessions n ≡ Some (marked x (rows_found x q)) → NextStays next next' n
    → Tells limits next s n (statements.Delete q) (replies.Deleted (length (rows_found x q))) (with_transaction s n (marked x (rows_found x q)))
    × IsAhead next' (updated hands n None) d (with_transaction s n (marked x (rows_found x q)))

-- One that has marked some of them, and meets a conflict in the journal, is answered that: by the transcript the row must conflict, or may.
abbrev pub FailedDeletesAreTold : Type 0
FailedDeletesAreTold = (limits : Limits) (next next' : ℕ → Option Statement) (hands : ℕ → Option Hand) (d s : DatabaseState) (n : ℕ) (q : Query) (x : OpenTransaction) (before : List Row) (row : Row) (after : List Row)
    → IsAhead next hands d s → AreMarksApart d → IsSound s n x → rows_found x q ≡ before ++ row ∷ after → map.get d.sessions n ≡ Some (marked x before) → is_conflict d n (marked x before) row.id ≡ true
    → NextStays next next' n
    → Tells limits next s n (statements.Delete q) (replies.Refused (refusals.Conflict row.id)) (with_transaction s n (failed_transaction (marked x before)))
    × IsAhead next' (updated hands n None) (after_request d (mark_entry n q.table row)) (with_transaction s n (failed_transaction (marked x before)))

-- The journal enters a delete's look, and then a mark that doesn't conflict: it is ahead by the marked row.
abbrev pub LooksStayAhead : Type 0
LooksStayAhead = (next : ℕ → Option Statement) (hands : ℕ → Option Hand) (d s : DatabaseState) (n : ℕ) (q : Query) (x : OpenTransaction) → IsAhead next hands d s → IsSound s n x
    → hands n ≡ Some (record { statement = statements.Delete q; answers = [] })
    → IsAhead next (updated hands n (Some (record { statement = statements.Delete q; answers = reply_to d (look_entry n q) ∷ [] }))) (after_request d (look_entry n q)) s

abbrev pub MarksStayAhead : Type 0
MarksStayAhead = (next : ℕ → Option Statement) (hands : ℕ → Option Hand) (d s : DatabaseState) (n : ℕ) (q : Query) (x : OpenTransaction) (rows : List Row) (row : Row) (left : List Row) → IsAhead next hands d s → IsSound s n x
    → hands n ≡ Some (record { statement = statements.Delete q; answers = Found (rows_found x q) ∷ answers_marked rows }) → map.get d.sessions n ≡ Some (marked x rows) → rows_found x q ≡ rows ++ row ∷ left
    → is_conflict d n (marked x rows) row.id ≡ false
    → IsAhead next (updated hands n (Some (record { statement = statements.Delete q; answers = Found (rows_found x q) ∷ answers_marked (rows ++ row ∷ []) }))) (after_request d (mark_entry n q.table row)) s

-- A session with nothing entered has the same transaction in both; so a statement is taken, or refused, alike.
abbrev pub StatementsAreTaken : Type 0
StatementsAreTaken = (next : ℕ → Option Statement) (hands : ℕ → Option Hand) (d s : DatabaseState) (n : ℕ) (statement : Statement) → IsAhead next hands d s → hands n ≡ None
    → (refusal_at s n statement ≡ refusal_at d n statement)
    × (refusal_at d n statement ≡ None → next n ≡ Some statement → IsAhead next (updated hands n (Some (record { statement = statement; answers = [] }))) d s)

-- The ends of transactions, and begins.
abbrev pub BeginsAreTold : Type 0
BeginsAreTold = (limits : Limits) (next next' : ℕ → Option Statement) (hands : ℕ → Option Hand) (d s : DatabaseState) (n : ℕ) → IsAhead next hands d s → map.get s.sessions n ≡ None → map.get d.sessions n ≡ None
    → s.next < limits.numbers → NextStays next next' n
    → Tells limits next s n statements.Begin (replies.Begun s.next) (after_begin s n) × IsAhead next' (updated hands n None) (after_request d (request_entry n 0 requests.Begin)) (after_begin s n)

abbrev pub CommitsAreTold : Type 0
CommitsAreTold = (limits : Limits) (next next' : ℕ → Option Statement) (hands : ℕ → Option Hand) (d s : DatabaseState) (n : ℕ) (x : OpenTransaction) → IsAhead next hands d s → map.get s.sessions n ≡ Some x
    → map.get d.sessions n ≡ Some x → NextStays next next' n
    → Tells limits next s n statements.Commit (if x.failed then replies.RolledBack else replies.Committed) (after_commit s n x)
    × IsAhead next' (updated hands n None) (after_request d (request_entry n 0 requests.Commit)) (after_commit s n x)

abbrev pub RollbacksAreTold : Type 0
RollbacksAreTold = (limits : Limits) (next next' : ℕ → Option Statement) (hands : ℕ → Option Hand) (d s : DatabaseState) (n : ℕ) (x : OpenTransaction) → IsAhead next hands d s → map.get s.sessions n ≡ Some x
    → map.get d.sessions n ≡ Some x → NextStays next next' n
    → Tells limits next s n statements.Rollback replies.RolledBack (without_transaction s n)
    × IsAhead next' (updated hands n None) (after_request d (request_entry n 0 requests.Rollback)) (without_transaction s n)

-- A select, and whatever changes no transaction.
abbrev pub SelectsAreTold : Type 0
SelectsAreTold = (limits : Limits) (next next' : ℕ → Option Statement) (hands : ℕ → Option Hand) (d s : DatabaseState) (n : ℕ) (q : Query) (x : OpenTransaction) → IsAhead next hands d s → IsSound s n x
    → map.get d.sessions n ≡ Some x → NextStays next next' n
    → Tells limits next s n (statements.Select q) (replies.Found (rows_found x q)) s × IsAhead next' (updated hands n None) (after_request d (look_entry n q)) s

-- An insert that is refused: its row isn't put, or was put and can't be indexed. The journal has its put with the tag of the refusal, behind the put of its row.
abbrev pub RefusedInsertsAreTold : Type 0
RefusedInsertsAreTold = (limits : Limits) (next next' : ℕ → Option Statement) (hands : ℕ → Option Hand) (d s : DatabaseState) (n table : ℕ) (values : List Value) (x : OpenTransaction) (at : ℕ)
    → IsAhead next hands d s → IsSound s n x → map.get d.sessions n ≡ Some (after_put x table values) → NextStays next next' n
    → Tells limits next s n (statements.Insert table values) (replies.Refused (limits.index_full table at)) (after_failure s n (after_put x table values))
    × IsAhead next' (updated hands n None) (after_request d (tagged_entry n table (requests.Put values) tags.Full)) (after_failure s n (after_put x table values))

-- A request that fails the transaction of a session with nothing entered (no memory, or no room for a row): it has failed in both.
abbrev pub FailuresStayAhead : Type 0
FailuresStayAhead = (next next' : ℕ → Option Statement) (hands : ℕ → Option Hand) (d s : DatabaseState) (e : Entry) (x : OpenTransaction) → IsAhead next hands d s
    → after_request d e ≡ after_failure d e.session x → NextStays next next' e.session
    → IsAhead next' (updated hands e.session None) (after_request d e) (after_failure s e.session x)

-- A statement that changes no transaction is answered: explain, maintenance, and a begin for which there is no number.
abbrev pub OthersStayAhead : Type 0
OthersStayAhead = (next next' : ℕ → Option Statement) (hands : ℕ → Option Hand) (d s : DatabaseState) (n : ℕ) → IsAhead next hands d s → map.get d.sessions n ≡ map.get s.sessions n → NextStays next next' n
    → IsAhead next' (updated hands n None) d s
