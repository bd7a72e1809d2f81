-- where a row stands, and where the next one is put
use Rattle.std.specs.Prelude.{◌≡◌, ◌≢◌, ℕ, ◌+◌, nat_lt, List, [], ◌∷◌, ◌++◌, length, replicate, set, slice_index_or, Option, None, Some, if◌then◌else◌}
use Rattle.block_model.specs.declared.place.Spot.{Spot}
use Rattle.block_model.specs.declared.row.RowId.{RowId}
use Rattle.block_model.specs.declared.value.Value.{Value}
use Rattle.store_layout.specs.DiskLayout.{DiskLayout}
use Rattle.page_layout.specs.RowBytes.{StoredRow}
use Rattle.page_layout.specs.PageContents.{Slot}
use Rattle.page_layout.specs.FreeSlots.{lowest_free}
use Rattle.page_layout.specs.PageWrites.{marked}
use Rattle.page_map.specs.PageMap.{PageMap}
use Rattle.heap_rows.specs.HeapBlocks.{slots_of, HasBlocks}
use Rattle.heap_rows.specs.Heaps.{slots_a_page}

-- what is in the slot at a spot
abbrev pub slot_at : List (List Slot) → Spot → Slot
slot_at blocks spot = slice_index_or (slots_of blocks spot.block) spot.slot None

-- a free slot of a block, else a later place
abbrev pub spot_in : ℕ → Option ℕ → Option Spot → Option Spot
spot_in block (Some slot) later = Some (record { block = block; slot = slot })
spot_in block None later = later

-- From a block on: the lowest free slot of the lowest block that has one. Else it is the first slot of the next block, if that is below the limit.
unfoldable pub place_from : ℕ → ℕ → List (List Slot) → Option Spot
place_from limit block [] = if nat_lt block limit then Some (record { block = block; slot = 0 }) else None
place_from limit block (slots ∷ blocks) = spot_in block (lowest_free slots) (place_from limit (block + 1) blocks)

-- where the next row is put
abbrev pub place_for : ℕ → List (List Slot) → Option Spot
place_for limit blocks = place_from limit 0 blocks

-- the blocks up to that one: where it is the next, it is started with this many slots
abbrev pub with_table_block : ℕ → List (List Slot) → ℕ → List (List Slot)
with_table_block count blocks block = if nat_lt block (length blocks) then blocks else blocks ++ replicate count None ∷ []

-- the blocks with that in the slot at a spot
abbrev pub with_slot : List (List Slot) → Spot → Slot → List (List Slot)
with_slot blocks spot slot = set blocks spot.block (set (slots_of blocks spot.block) spot.slot slot)

-- the blocks with the row at a spot, whose block is started where it is the next
abbrev pub with_row : ℕ → List (List Slot) → Spot → StoredRow → List (List Slot)
with_row count blocks spot row = with_slot (with_table_block count blocks spot.block) spot (Some row)

-- a row as it is put: no transaction deleted it
abbrev pub new_row : RowId → List Value → StoredRow
new_row id values = record { id = id; deleter = 0; values = values }

-- the table has its blocks, and the row at the spot
abbrev pub TakesRowAt : DiskLayout → PageMap → ℕ → Spot → StoredRow → List (List Slot) → Type 0
TakesRowAt layout pages table spot row blocks = HasBlocks layout pages table (with_row (slots_a_page layout table) blocks spot row)

-- a row of the table stands at the spot
abbrev pub IsInUse : DiskLayout → PageMap → ℕ → Spot → Type 0
IsInUse layout pages table spot = (blocks : List (List Slot)) × (row : StoredRow) × HasBlocks layout pages table blocks × (slot_at blocks spot ≡ Some row)

-- the slot at the spot is that one now, and each other is as before
pub record ChangesSlot (old new : List (List Slot)) (spot : Spot) (slot : Slot) : Type 0 where
  pub there : slot_at new spot ≡ slot
  pub others : (other : Spot) → other ≢ spot → slot_at new other ≡ slot_at old other

-- the slot at the spot was free, and has the row now; each other is as before
abbrev pub FillsSlot : ℕ → Spot → StoredRow → List (List Slot) → Type 0
FillsSlot count spot row blocks = (slot_at blocks spot ≡ None) × ChangesSlot blocks (with_row count blocks spot row) spot (Some row)

-- the table has its blocks, and the row at the spot has the deleter
abbrev pub MarksRow : DiskLayout → PageMap → ℕ → Spot → ℕ → List (List Slot) → Type 0
MarksRow layout pages table spot deleter blocks = (row : StoredRow) → slot_at blocks spot ≡ Some row → HasBlocks layout pages table (with_slot blocks spot (Some (marked row deleter)))

-- the row at the spot has the deleter, and each other slot is as before
abbrev pub MarksSlot : Spot → ℕ → List (List Slot) → Type 0
MarksSlot spot deleter blocks = (row : StoredRow) → slot_at blocks spot ≡ Some row → ChangesSlot blocks (with_slot blocks spot (Some (marked row deleter))) spot (Some (marked row deleter))
