-- Why a statement of a table ends without its reply.
use Rattle.std.specs.Prelude.{◌≡◌, ℕ, ◌*◌, Option, None, Some}
use Rattle.block_model.specs.declared.row.Row.{Row}
use Rattle.block_model.specs.declared.row.RowId.{RowId}
use Rattle.coverage.specs.IndexView.{IndexView}
use Rattle.coverage.specs.Statements.{Phase}
use Rattle.coverage.specs.Table.{Job, Task, Resting, Prunes, Sweeps, Restarts, Scans, Maintains, TableState, index_view_at}
use Rattle.coverage.specs.TableSteps.{IsRowRefused, HeapFull, RowLacksMemory, IsInsertRefused, IndexFull, IsMaintainRefused, NoPage, Does, PutsRow}
use Rattle.coverage.specs.TableSteps.{RefusesRow, AsksSummary, InsertGoes, InsertCompletes, RefusesInsert, TakesLock, MaintainGoes, MaintainCompletes}
use Rattle.coverage.specs.TableSteps.{RefusesMaintain, RefusesVacuum, PrunesBlock, SweepsPage, RestartsIndex, BeginsScan, Judges, ReadsBlock, RefusesScan}
use Rattle.coverage.specs.TableSteps.{MarksRow, Conflicts, Blocked, Transacts}

-- a relation of the table: its heap, or one of its indexes
pub data Relation : Type 0 where
  Heap : Relation
  IndexNumber : (at : ℕ) → Relation

-- memory is short; a relation is full, with the number that the text tells; or a row that a delete would mark is in conflict
pub data Refusal : Type 0 where
  LacksMemory : Refusal
  IsFull : Relation → (number : ℕ) → Refusal
  HasConflict : RowId → Refusal

-- a full heap tells the number of its slots
abbrev pub row_refusal : (w : TableState) → IsRowRefused w → Refusal
row_refusal w (HeapFull full) = IsFull Heap (w.heap_limit * w.rows_per_page)
row_refusal w RowLacksMemory = LacksMemory

abbrev pub insert_refusal : {w : TableState} {s b k : ℕ} {r : Row} {task : Task} → IsInsertRefused w s b k r task → Refusal
insert_refusal (IndexFull number at x old new verdict) = IsFull (IndexNumber at) number

abbrev pub maintain_refusal : (at : ℕ) → {w : IndexView} {s range : ℕ} {phase : Phase} → IsMaintainRefused w s range phase → Refusal
maintain_refusal at (NoPage number phase full) = IsFull (IndexNumber at) number

abbrev pub does_refusal : (s : ℕ) (w v : TableState) → Does s w v → Option Refusal
does_refusal s w v (PutsRow b k r place turns takes) = None
does_refusal s w v (RefusesRow t refused turns fails) = Some (row_refusal w refused)
does_refusal s w v (AsksSummary b k r at turns only) = None
does_refusal s w v (InsertGoes b k r at old new turns stepped step) = None
does_refusal s w v (InsertCompletes b k r at old turns stepped step) = None
does_refusal s w v (RefusesInsert b k r old refused turns fails) = Some (insert_refusal refused)
does_refusal s w v (TakesLock first begins turns free held rows indexes) = None
does_refusal s w v (MaintainGoes job at range old new turns stepped step) = None
does_refusal s w v (MaintainCompletes job at range old turns stepped step) = None
does_refusal s w v (RefusesMaintain job at range phase refused turns stepped passes) = Some (maintain_refusal at refused)
does_refusal s w v (RefusesVacuum old vacuuming turns given rows indexes) = Some LacksMemory
does_refusal s w v (PrunesBlock extent next dropped inside spared turns drops) = None
does_refusal s w v (SweepsPage at page turns stepped sweeps) = None
does_refusal s w v (RestartsIndex at turns only) = None
does_refusal s w v (BeginsScan scan begins turns only) = None
does_refusal s w v (Judges old new inside low step turns only) = None
does_refusal s w v (ReadsBlock scan next found reads turns only) = None
does_refusal s w v (RefusesScan scan t turns how) = Some LacksMemory
does_refusal s w v (MarksRow scan id rest turns only) = None
does_refusal s w v (Conflicts scan id rest t turns fails) = Some (HasConflict id)
does_refusal s w v (Blocked task blocked turns only) = None
does_refusal s w v (Transacts counts resting few same) = None

-- The statements that want of memory may end: an insert that has no row yet, or a statement that hasn't begun; a scan; and a vacuum
-- that is at no range. No insert, summarise or desummarise takes memory after its first step, and no mark takes any.
abbrev pub MayLackMemory : Task → Type 0
MayLackMemory Resting = Unit
MayLackMemory (Scans scan) = Unit
MayLackMemory (Prunes extent next) = Unit
MayLackMemory (Sweeps at page) = Unit
MayLackMemory (Restarts at) = Unit
MayLackMemory task = ⊥

-- no page of an index is left for what the statement has to put, and the index has so many
pub data IsTaskFull (w : TableState) (s : ℕ) : Task → (at number : ℕ) → Type 0 where
  InsertFull : (b k : ℕ) (r : Row) (task : Task) (at number : ℕ) (refused : IsInsertRefused w s b k r task) → insert_refusal refused ≡ IsFull (IndexNumber at) number
      → IsTaskFull w s task at number
  MaintainFull : (job : Job) (at range number : ℕ) (phase : Phase) (refused : IsMaintainRefused (index_view_at at w) s range phase)
      → maintain_refusal at refused ≡ IsFull (IndexNumber at) number → IsTaskFull w s (Maintains job at range phase) at number
