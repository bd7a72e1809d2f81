-- the table that the pages of its heap and of its indexes, and the page locks, show
use Rattle.std.specs.Prelude.{◌≡◌, ℕ, List, length, Option, None, Some}
use Rattle.block_model.specs.declared.row.Row.{Row}
use Rattle.store_layout.specs.DiskLayout.{DiskLayout}
use Rattle.page_layout.specs.PageContents.{Slot}
use Rattle.page_map.specs.PageMap.{PageMap}
use Rattle.page_locks.specs.LockHolders.{LockState}
use Rattle.heap_rows.specs.HeapBlocks.{HasBlocks}
use Rattle.heap_rows.specs.Heaps.{slots_a_page}
use Rattle.heap_rows.specs.RowPlaces.{slot_at}
use Rattle.coverage.specs.Machines.{ShownTable, Unseen, table_state}
use Rattle.coverage.specs.Table.{Task}
use Rattle.coverage.specs.TableCovered.{IsTableKept}
use Rattle.index_steps.specs.ShownTable.{shown_table}

-- the row in a slot of a table's block, deleted or not
abbrev pub row_in : (table : ℕ) → Slot → Option Row
row_in table None = None
row_in table (Some stored) = Some (record { table = table; id = stored.id; values = stored.values })

-- the rows by block and slot
abbrev pub rows_in : (table : ℕ) → List (List Slot) → ℕ → ℕ → Option Row
rows_in table blocks b k = row_in table (slot_at blocks (record { block = b; slot = k }))

-- the table whose heap has these blocks
abbrev pub shown_by : DiskLayout → PageMap → LockState → (table : ℕ) → List (List Slot) → ShownTable
shown_by layout pages locks table blocks = shown_table layout pages locks table (slots_a_page layout table) (length blocks) (rows_in table blocks)

-- they show a table that is kept, in which the session's statement is at this task
pub record ShowsKept (layout : DiskLayout) (pages : PageMap) (locks : LockState) (s table : ℕ) (task : Task) : Type 0 where
  pub blocks : List (List Slot)
  pub has : HasBlocks layout pages table blocks
  pub unseen : Unseen
  pub at : unseen.task s ≡ task
  pub kept : IsTableKept (table_state (shown_by layout pages locks table blocks) unseen)
