-- What a transcript tells: whole statements, each at the place where its answer was kept, one after the other.
use Rattle.std.specs.Prelude.{◌≡◌, ◌≢◌, ◌⊎◌, ◌<◌, ℕ, true, false, codes, List, ◌∷◌, ◌++◌, length, fold, All, Option, None, Some, if◌then◌else◌}
use Rattle.std.specs.FinMap as map
use Rattle.block_model.specs.declared.reply.Refusal.{Refusal}
use Rattle.block_model.specs.declared.reply.Refusal.TheVariants as refusals
use Rattle.block_model.specs.declared.reply.Reply.{Reply}
use Rattle.block_model.specs.declared.reply.Reply.TheVariants as replies
use Rattle.block_model.specs.declared.row.Query.{Query}
use Rattle.block_model.specs.declared.row.Row.{Row}
use Rattle.block_model.specs.declared.row.RowId.{RowId}
use Rattle.block_model.specs.declared.value.Value.{Value}
use Rattle.block_model.specs.DatabaseState.{DatabaseState, OpenTransaction}
use Rattle.block_model.specs.RequestEffect.{after_begin, after_commit, after_failure, after_mark, after_put, failed_transaction, is_conflict, is_own, next_row, rows_found, with_transaction, without_transaction}
use Rattle.store_layout.specs.declared.statement.Statement.{Statement}
use Rattle.store_layout.specs.declared.statement.Statement.TheVariants as statements
use Rattle.store_layout.specs.StatementRequests.{refusal_at}

-- ---- deletes

-- the next statement that another session tells is a delete, and finds the row
pub record MayConflict (next : ℕ → Option Statement) (s : DatabaseState) (n : ℕ) (id : RowId) : Type 0 where
  pub other : ℕ
  pub apart : other ≢ n
  pub query : Query
  pub is_delete : next other ≡ Some (statements.Delete query)
  pub transaction : OpenTransaction
  pub under_way : map.get s.sessions other ≡ Some transaction
  pub sound : transaction.failed ≡ false
  pub before : List Row
  pub row : Row
  pub after : List Row
  pub finds : rows_found transaction query ≡ before ++ row ∷ after
  pub is : row.id ≡ id

-- the transaction behind the marks of these rows
abbrev pub marked : OpenTransaction → List Row → OpenTransaction
marked x rows = fold (λ (y : OpenTransaction) (row : Row). after_mark y row.id) x rows

-- none of them must conflict
abbrev pub AreFree : DatabaseState → ℕ → OpenTransaction → List Row → Type 0
AreFree s n x rows = All (λ (row : Row). is_conflict s n x row.id ≡ false) rows

-- What a delete is answered, and the transaction that it leaves. It marks all that it finds, where no row must conflict. Or it fails at the first row that must conflict,
-- or at an earlier one that may. Or memory is short.
pub data Deletes (next : ℕ → Option Statement) (s : DatabaseState) (n : ℕ) (q : Query) (x : OpenTransaction) : Reply → OpenTransaction → Type 0 where
  MarksAll : AreFree s n x (rows_found x q) → Deletes next s n q x (replies.Deleted (length (rows_found x q))) (marked x (rows_found x q))
  FailsAt : (before : List Row) (row : Row) (after : List Row) → rows_found x q ≡ before ++ row ∷ after → AreFree s n x before
      → (is_conflict s n x row.id ≡ true) ⊎ ((is_own x row.id ≡ false) × MayConflict next s n row.id)
      → Deletes next s n q x (replies.Refused (refusals.Conflict row.id)) (failed_transaction (marked x before))
  LacksMemory : Deletes next s n q x (replies.Refused refusals.Memory) (failed_transaction x)

-- ---- all statements

-- the session has this transaction, which hasn't failed
pub record IsSound (s : DatabaseState) (n : ℕ) (x : OpenTransaction) : Type 0 where
  pub under_way : map.get s.sessions n ≡ Some x
  pub whole : x.failed ≡ false

-- explain and maintenance
abbrev pub IsOutside : Statement → Type 0
IsOutside (statements.Explain q) = Unit {0}
IsOutside (statements.Summarize index block) = Unit {0}
IsOutside (statements.Desummarize index block) = Unit {0}
IsOutside (statements.Vacuum table) = Unit {0}
IsOutside statements.Work = Unit {0}
IsOutside statement = ⊥

-- what a full table is told as, and a full index of a table, by its number there; and how many transactions have a number
pub record Limits : Type 0 where
  pub table_full : ℕ → Refusal
  pub index_full : ℕ → ℕ → Refusal
  pub numbers : ℕ

-- A statement of session n is answered so, as one step on its session's copy, and leaves that database. Where a row of an insert can't be indexed it was put before. What
-- explain and maintenance are answered isn't said here.
pub data Tells (limits : Limits) (next : ℕ → Option Statement) (s : DatabaseState) (n : ℕ) : Statement → Reply → DatabaseState → Type 0 where
  NotTaken : (statement : Statement) (refusal : Refusal) → refusal_at s n statement ≡ Some refusal → Tells limits next s n statement (replies.Refused refusal) s
  Begins : map.get s.sessions n ≡ None → s.next < limits.numbers → Tells limits next s n statements.Begin (replies.Begun s.next) (after_begin s n)
  NoNumber : map.get s.sessions n ≡ None → s.next ≡ limits.numbers → Tells limits next s n statements.Begin (replies.Refused (refusals.Full (codes "status") limits.numbers)) s
  BeginLacksMemory : map.get s.sessions n ≡ None → Tells limits next s n statements.Begin (replies.Refused refusals.Memory) s
  Commits : (x : OpenTransaction) → map.get s.sessions n ≡ Some x → Tells limits next s n statements.Commit (if x.failed then replies.RolledBack else replies.Committed) (after_commit s n x)
  RollsBack : (x : OpenTransaction) → map.get s.sessions n ≡ Some x → Tells limits next s n statements.Rollback replies.RolledBack (without_transaction s n)
  Inserts : (x : OpenTransaction) (table : ℕ) (values : List Value) → IsSound s n x
      → Tells limits next s n (statements.Insert table values) (replies.Inserted (next_row x table values).id) (with_transaction s n (after_put x table values))
  TableIsFull : (x : OpenTransaction) (table : ℕ) (values : List Value) → IsSound s n x
      → Tells limits next s n (statements.Insert table values) (replies.Refused (limits.table_full table)) (after_failure s n x)
  IndexIsFull : (x : OpenTransaction) (table at : ℕ) (values : List Value) → IsSound s n x
      → Tells limits next s n (statements.Insert table values) (replies.Refused (limits.index_full table at)) (after_failure s n (after_put x table values))
  InsertLacksMemory : (x : OpenTransaction) (table : ℕ) (values : List Value) → IsSound s n x
      → Tells limits next s n (statements.Insert table values) (replies.Refused refusals.Memory) (after_failure s n x)
  Selects : (x : OpenTransaction) (q : Query) → IsSound s n x → Tells limits next s n (statements.Select q) (replies.Found (rows_found x q)) s
  SelectLacksMemory : (x : OpenTransaction) (q : Query) → IsSound s n x → Tells limits next s n (statements.Select q) (replies.Refused refusals.Memory) (after_failure s n x)
  Deleting : (x y : OpenTransaction) (q : Query) (reply : Reply) → IsSound s n x → Deletes next s n q x reply y → Tells limits next s n (statements.Delete q) reply (with_transaction s n y)
  Outside : (statement : Statement) (reply : Reply) → IsOutside statement → Tells limits next s n statement reply s
