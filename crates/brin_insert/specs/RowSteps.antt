-- a row that is put into its table
use Rattle.std.specs.Prelude.{◌≡◌, ◌≢◌, ◌<◌, ℕ, List, length, Some}
use Rattle.block_model.specs.declared.place.Place.{Place}
use Rattle.block_model.specs.declared.place.Spot.{Spot}
use Rattle.block_model.specs.declared.reply.Point.TheVariants as points
use Rattle.block_model.specs.declared.row.Row.{Row}
use Rattle.block_model.specs.declared.row.RowId.{RowId}
use Rattle.block_model.specs.declared.value.Value.{Value}
use Rattle.store_layout.specs.DiskLayout.{DiskLayout}
use Rattle.page_layout.specs.PageContents.{Slot}
use Rattle.page_map.specs.PageMap.{PageMap, page_at}
use Rattle.page_locks.specs.LockHolders.{LockState}
use Rattle.heap_rows.specs.HeapBlocks.{HasBlocks}
use Rattle.heap_rows.specs.Heaps.{relation_of, slots_a_page}
use Rattle.heap_rows.specs.RowPlaces.{FillsSlot, new_row, place_for, with_row}
use Rattle.coverage.specs.Accounts.{no_account}
use Rattle.coverage.specs.InOneIndex.{DoesAt}
use Rattle.coverage.specs.Machines.{Unseen, table_state, task_turned}
use Rattle.coverage.specs.Table.{Reaches, Resting}
use Rattle.index_steps.specs.ShownRows.{shown_by}

-- The heap had these blocks; the row comes to the first free slot, and no other relation changes.
pub record PutsRowOf (layout : DiskLayout) (pages paged : PageMap) (table : ℕ) (id : RowId) (values : List Value) (spot : Spot) (blocks : List (List Slot)) : Type 0 where
  pub declared : table < length layout.schema.tables
  pub has : HasBlocks layout pages table blocks
  pub place : place_for layout.sizes.heap_blocks blocks ≡ Some spot
  pub fills : FillsSlot (slots_a_page layout table) spot (new_row id values) blocks
  pub within : (spot.block < layout.sizes.heap_blocks) × (spot.slot < slots_a_page layout table)
  pub others : (place : Place) → place.relation ≢ relation_of table → page_at paged place ≡ page_at pages place

-- the blocks of the heap with the row
abbrev pub blocks_with : DiskLayout → (table : ℕ) → RowId → List Value → Spot → List (List Slot) → List (List Slot)
blocks_with layout table id values spot blocks = with_row (slots_a_page layout table) blocks spot (new_row id values)

abbrev pub row_of : (table : ℕ) → RowId → List Value → Row
row_of table id values = record { table = table; id = id; values = values }

-- whatever the pages and locks don't show, the session begins its insert with that row, before the first index
abbrev pub RowBegins : DiskLayout → (pages paged : PageMap) → LockState → (s table : ℕ) → RowId → List Value → Spot → List (List Slot) → Type 0
RowBegins layout pages paged locks s table id values spot blocks = (u : Unseen) → u.task s ≡ Resting
    → DoesAt s (table_state (shown_by layout pages locks table blocks) u)
    (table_state (shown_by layout paged locks table (blocks_with layout table id values spot blocks)) (task_turned s (Reaches spot.block spot.slot (row_of table id values) 0) u)) points.Row (λ account. no_account)
