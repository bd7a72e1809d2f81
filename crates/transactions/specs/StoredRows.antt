-- rows in the slots of tables, and what becomes of them
use Rattle.std.specs.Prelude.{◌≡◌, ◌≢◌, ℕ, Bool, not, ◌&&◌, ◌==◌, List, Some}
use Rattle.block_model.specs.declared.place.Place.{Place}
use Rattle.block_model.specs.declared.place.Spot.{Spot}
use Rattle.block_model.specs.declared.row.Row.{Row}
use Rattle.store_layout.specs.DiskLayout.{DiskLayout}
use Rattle.page_layout.specs.PageContents.{Slot}
use Rattle.page_layout.specs.PageWrites.{marked}
use Rattle.page_layout.specs.RowBytes.{StoredRow}
use Rattle.page_map.specs.PageMap.{PageMap, page_at}
use Rattle.heap_rows.specs.Heaps.{relation_of, slots_a_page}
use Rattle.heap_rows.specs.HeapBlocks.{HasBlocks}
use Rattle.heap_rows.specs.RowPlaces.{FillsSlot, TakesRowAt, slot_at, with_slot}
use Rattle.snapshot_core.specs.declared.statuses.Status.{Status}
use Rattle.snapshot_core.specs.Visibility.{sees}
use Rattle.snapshot_core.specs.declared.sessions.Open.{Open}
use Rattle.snapshot_core.specs.Marks.{holds}
use Rattle.transactions.specs.GivenStatuses.{given_status}

-- a row of the table of that number, as it is stored
abbrev pub row_of : ℕ → StoredRow → Row
row_of table row = record { table = table; id = row.id; values = row.values }

-- the row stands in that slot of the table
pub record StandsAt (layout : DiskLayout) (pages : PageMap) (table : ℕ) (spot : Spot) (row : StoredRow) : Type 0 where
  pub blocks : List (List Slot)
  pub has : HasBlocks layout pages table blocks
  pub there : slot_at blocks spot ≡ Some row

-- the pages of every relation but the table's are as before
abbrev pub OtherRelationsStay : PageMap → PageMap → ℕ → Type 0
OtherRelationsStay old new table = (place : Place) → place.relation ≢ relation_of table → page_at new place ≡ page_at old place

-- the row stands in a slot now that was free, and every other slot and relation is as before
pub record PutsRow (layout : DiskLayout) (old new : PageMap) (table : ℕ) (spot : Spot) (row : StoredRow) : Type 0 where
  pub blocks : List (List Slot)
  pub has : HasBlocks layout old table blocks
  pub fills : FillsSlot (slots_a_page layout table) spot row blocks
  pub takes : TakesRowAt layout new table spot row blocks
  pub others : OtherRelationsStay old new table

-- the row of the slot has that deleter now, and every other slot and relation is as before
pub record MarksRowAt (layout : DiskLayout) (old new : PageMap) (table : ℕ) (spot : Spot) (row : StoredRow) (deleter : ℕ) : Type 0 where
  pub blocks : List (List Slot)
  pub has : HasBlocks layout old table blocks
  pub there : slot_at blocks spot ≡ Some row
  pub marks : HasBlocks layout new table (with_slot blocks spot (Some (marked row deleter)))
  pub others : OtherRelationsStay old new table

-- an open transaction sees the row, by the statuses of the opening with that first number
abbrev pub sees_row : (first : ℕ) → List Status → Open → StoredRow → Bool
sees_row first stored o row = sees o.snapshot o.t row.id.t row.deleter (given_status first stored row.id.t) (given_status first stored row.deleter)

-- the transaction numbered own can't delete the row: it is another's, and a third one, which is under way or has committed, deleted it
abbrev pub conflicts_with : (first : ℕ) → List Status → (own : ℕ) → StoredRow → Bool
conflicts_with first stored own row = not (row.id.t == own) && (not (row.deleter == own) && holds (given_status first stored row.deleter))

-- a row of the table stands in exactly one slot of it
pub record StandsOnce (layout : DiskLayout) (pages : PageMap) (table : ℕ) (row : Row) : Type 0 where
  pub spot : Spot
  pub stored : StoredRow
  pub stands : StandsAt layout pages table spot stored
  pub is : row ≡ row_of table stored
  pub once : (other : Spot) (there : StoredRow) → StandsAt layout pages table other there → there.id ≡ row.id → other ≡ spot
