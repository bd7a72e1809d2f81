-- what a step in an index is in the table of that index
use Rattle.std.specs.Prelude.{◌≡◌, ◌≢◌, ℕ, ◌/◌, suc, List}
use Rattle.block_model.specs.declared.reply.Point.{Point}
use Rattle.block_model.specs.declared.row.Row.{Row}
use Rattle.store_layout.specs.DiskLayout.{DiskLayout}
use Rattle.page_map.specs.PageMap.{PageMap}
use Rattle.page_locks.specs.LockHolders.{LockState, holder}
use Rattle.coverage.specs.InOneIndex.{DoesAt}
use Rattle.coverage.specs.Machines.{ShownTable, Unseen, table_state, task_turned}
use Rattle.coverage.specs.Table.{Task, Inserts, Reaches}
use Rattle.coverage.specs.TableCovered.{IsTableKept}
use Rattle.range_tuple.specs.Tuples.{Tuple}
use Rattle.index_contents.specs.IndexContents.{contents, relation_of}
use Rattle.index_steps.specs.IndexTuples.{index_at, shape_of}
use Rattle.index_steps.specs.SwapAnswers.{LeavesLocks}
use Rattle.brin_insert.specs.declared.stage.Stage.{Stage}
use Rattle.brin_insert.specs.declared.stage.Stage.TheVariants as stages
use Rattle.brin_insert.specs.InsertSteps.{StepMakes, insert_at, on_index}

-- whatever the pages and locks of a table's indexes don't show, this is what the session does in the table, under this point
abbrev pub ShownDoes : ℕ → (old new : ShownTable) → (before after : Task) → Point → Type 0
ShownDoes s old new before after point = (u : Unseen) → u.task s ≡ before → IsTableKept (table_state old u)
    → DoesAt s (table_state old u) (table_state new (task_turned s after u)) point (λ account. account)

-- a store's pages and page locks, before a step and after it
pub record Stores : Type 0 where
  pub layout : DiskLayout
  pub pages : PageMap
  pub paged : PageMap
  pub locks : LockState
  pub locked : LockState

-- a step of an insert in the index of that number is one of the insert in its range, and leaves the other indexes, and the locks of
-- other relations but for the insert's own
pub record StepsInIndex (store : Stores) (n s b : ℕ) (r : Row) (stage next : Stage) (copied after : List ℕ) (t u : Tuple) (point : Point) : Type 0 where
  pub makes : StepMakes (shape_of store.layout n) s (b / (index_at store.layout n).pages_per_range) r (insert_at store.layout store.pages store.locks n stage copied t)
      (insert_at store.layout store.paged store.locked n next after u) point
  pub others : (other : ℕ) → other ≢ n → contents store.layout store.paged other ≡ contents store.layout store.pages other
  pub locks : LeavesLocks (holder store.locks) (holder store.locked) (relation_of store.layout n) s

-- where the insert stands then: at the index, or before the next one
abbrev pub task_after : DiskLayout → (n b k : ℕ) → Row → (at : ℕ) → Stage → (copied widened : List ℕ) → Task
task_after layout n b k r at stages.Complete copied widened = Reaches b k r (suc at)
task_after layout n b k r at stage copied widened = Inserts b k r at (on_index (shape_of layout n) stage copied widened)
