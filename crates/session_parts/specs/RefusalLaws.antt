-- refusals of statements in their tables
use Rattle.std.specs.Prelude.{◌≡◌, ◌≢◌, ℕ, Bool, false, IsTrue, List, ◌∷◌, None, Some}
use Rattle.block_model.specs.declared.place.Place.{Place as PagePlace}
use Rattle.block_model.specs.declared.row.Row.{Row}
use Rattle.block_model.specs.declared.row.RowId.{RowId}
use Rattle.block_model.specs.declared.value.Value.{Value}
use Rattle.page_locks.specs.LockChanges.{GivesAll}
use Rattle.page_locks.specs.LockHolders.{holder}
use Rattle.page_locks.specs.RightHolders.{right_of}
use Rattle.page_map.specs.PageMap.{page_at}
use Rattle.snapshot_core.specs.declared.statuses.Status.{Status}
use Rattle.store_layout.specs.declared.statement.Statement.{Statement}
use Rattle.store_layout.specs.declared.statement.Statement.TheVariants as statements
use Rattle.transactions.specs.CountedRows.{counts as counts_of}
use Rattle.coverage.specs.Statements.{Phase}
use Rattle.coverage.specs.Steps.{SummariseLockPasses}
use Rattle.coverage.specs.Accounts.{no_account}
use Rattle.coverage.specs.Refusals.{HasConflict, LacksMemory, Refusal, insert_refusal, maintain_refusal, row_refusal}
use Rattle.coverage.specs.Table.{Job, Maintains, Marks, Resting, Scans, TableScan, TableState, Task, index_view_at, pick}
use Rattle.coverage.specs.TableSteps.{IsInsertRefused, IsMaintainRefused, IsRowRefused, StepsIn, TableStep, TaskTurns}
use Rattle.script_semantics.specs.Beginnings.{IsIn}
use Rattle.script_semantics.specs.Place.{Place}
use Rattle.session_parts.specs.HandsInTables.{table_in}
use Rattle.session_parts.specs.Leaving.{LeavesOthers}
use Rattle.session_parts.specs.PlacesAfter.{TurnsIn, refusal_in}
use Rattle.session_parts.specs.ShowsPlace.{ShowsTable}
use Rattle.session_parts.specs.StoreStates.{ShownStore, hand_in}
use Rattle.session_parts.specs.TableLaws.{IsQuiet}

-- the session's statement is at nothing any more, and these rows count
abbrev pub refused_in : (n : ℕ) → (ℕ → Bool) → TableState → TableState
refused_in n counts w = record w { task = λ m. pick m n Resting (w.task m); counts = counts }

-- the rows of this transaction don't count any more, and no others come to count
pub record CountsNoMore (w : TableState) (counts : ℕ → Bool) (t : ℕ) : Type 0 where
  pub failed : counts t ≡ false
  pub fewer : (u : ℕ) → IsTrue (counts u) → IsTrue (w.counts u)

-- an insert has no row
abbrev pub RowIsRefused : Type 0
RowIsRefused = (p : Place) (n table t : ℕ) (values : List Value) (w : TableState) (counts : ℕ → Bool) → p.tables table ≡ w → w.task n ≡ Resting
    → (refused : IsRowRefused w) → CountsNoMore w counts t
    → (turns : TurnsIn p n (statements.Insert table values) table (refused_in n counts w) no_account) × (refusal_in turns ≡ Some (row_refusal w refused))

-- an index is full for an insert
abbrev pub InsertIsRefused : Type 0
InsertIsRefused = (p : Place) (n table b k : ℕ) (r : Row) (values : List Value) (w : TableState) (task : Task) (counts : ℕ → Bool) → p.tables table ≡ w
    → w.task n ≡ task → (refused : IsInsertRefused w n b k r task) → CountsNoMore w counts r.id.t
    → (turns : TurnsIn p n (statements.Insert table values) table (refused_in n counts w) (p.accounts n)) × (refusal_in turns ≡ Some (insert_refusal refused))

-- memory is short for a scan of a select or a delete
abbrev pub ScanIsRefused : Type 0
ScanIsRefused = (p : Place) (n table t : ℕ) (statement : Statement) (w : TableState) (scan : TableScan) (counts : ℕ → Bool) → p.tables table ≡ w
    → statement ≢ statements.Work → IsIn p n statement table → w.task n ≡ Scans scan → scan.explains ≡ false → CountsNoMore w counts t
    → (turns : TurnsIn p n statement table (refused_in n counts w) (p.accounts n)) × (refusal_in turns ≡ Some LacksMemory)

-- a delete meets a conflict
abbrev pub MarkIsRefused : Type 0
MarkIsRefused = (p : Place) (n table t : ℕ) (statement : Statement) (w : TableState) (scan : TableScan) (id : RowId) (rest : List RowId) (counts : ℕ → Bool) → p.tables table ≡ w
    → statement ≢ statements.Work → IsIn p n statement table → w.task n ≡ Marks scan (id ∷ rest) → CountsNoMore w counts t
    → (turns : TurnsIn p n statement table (refused_in n counts w) (p.accounts n)) × (refusal_in turns ≡ Some (HasConflict id))

-- an index is full for a maintenance statement, which gives its page locks and its summarise lock
abbrev pub MaintenanceIsRefused : Type 0
MaintenanceIsRefused = (p : Place) (n table at range : ℕ) (statement : Statement) (w v : TableState) (job : Job) (phase : Phase) → p.tables table ≡ w
    → IsIn p n statement table → w.task n ≡ Maintains job at range phase → (refused : IsMaintainRefused (index_view_at at w) n range phase)
    → TaskTurns n w v (Maintains job at range phase) Resting → StepsIn at w v → SummariseLockPasses n (index_view_at at w) (index_view_at at v) (Some n) None
    → (turns : TurnsIn p n statement table v (p.accounts n)) × (refusal_in turns ≡ Some (maintain_refusal at refused))

-- what a refusal that changes no page leaves of its table is shown: the session gave its locks, of which it had none there, and its transaction has failed
abbrev pub RefusalIsShown : Type 0
RefusalIsShown = (old new : ShownStore) (stored : List Status) (n table : ℕ) (w : TableState) → ShowsTable old stored table w → LeavesOthers n old new
    → ((place : PagePlace) → page_at new.pages place ≡ page_at old.pages place) → GivesAll (holder old.locks) (holder new.locks) n → new.rights ≡ old.rights
    → IsQuiet (w.task n) → table_in old.layout (hand_in new.hands n) ≢ Some table → TableStep n w (refused_in n (counts_of new.transactions stored) w)
    → ShowsTable new stored table (refused_in n (counts_of new.transactions stored) w)

-- a maintenance statement whose index is full has this state of its table behind it, which is shown
pub record IsMaintenanceShown (new : ShownStore) (stored : List Status) (p : Place) (n table : ℕ) (statement : Statement) (why : Refusal) : Type 0 where
  pub after : TableState
  pub shows : ShowsTable new stored table after
  pub turns : TurnsIn p n statement table after (p.accounts n)
  pub refused : refusal_in turns ≡ Some why

-- No page changes; its session gave its page locks and the table's summarise lock.
abbrev pub MaintenanceRefusalIsShown : Type 0
MaintenanceRefusalIsShown = (old new : ShownStore) (stored : List Status) (p : Place) (n table at range : ℕ) (statement : Statement) (w : TableState) (job : Job) (phase : Phase) → ShowsTable old stored table w
    → LeavesOthers n old new → ((place : PagePlace) → page_at new.pages place ≡ page_at old.pages place) → GivesAll (holder old.locks) (holder new.locks) n
    → right_of new.rights table ≡ None → ((t : ℕ) → counts_of new.transactions stored t ≡ counts_of old.transactions stored t)
    → table_in old.layout (hand_in new.hands n) ≢ Some table → p.tables table ≡ w → IsIn p n statement table
    → w.task n ≡ Maintains job at range phase → (refused : IsMaintainRefused (index_view_at at w) n range phase)
    → IsMaintenanceShown new stored p n table statement (maintain_refusal at refused)
