-- what the put of a row says of its table
use Rattle.std.specs.Prelude.{◌≡◌, ◌<◌, ℕ, Some}
use Rattle.block_model.specs.declared.place.Spot.{Spot}
use Rattle.store_layout.specs.DiskLayout.{DiskLayout}
use Rattle.disk_trait.specs.Told.{Told}
use Rattle.page_layout.specs.RowBytes.{StoredRow}
use Rattle.page_map.specs.PageMap.{View}
use Rattle.heap_rows.specs.Heaps.{slots_a_page}
use Rattle.heap_rows.specs.HeapBlocks.{OfBlocks}
use Rattle.heap_rows.specs.IsTableFull.{IsTableFull}
use Rattle.heap_rows.specs.RowPlaces.{FillsSlot, TakesRowAt, place_for}

-- a slot that the table may have
abbrev pub IsSpotOf : DiskLayout → ℕ → Spot → Type 0
IsSpotOf layout table spot = (spot.block < layout.sizes.heap_blocks) × (spot.slot < slots_a_page layout table)

-- where the next row of the table is put
abbrev pub IsNextSpot : {D : Type 0} → (D → Told) → View D → ℕ → Spot → Type 0
IsNextSpot told store table spot = OfBlocks told store table (λ blocks. place_for store.layout.sizes.heap_blocks blocks ≡ Some spot)

-- the table has the blocks that it had, and the row at the spot
abbrev pub TakesRow : {D : Type 0} → (D → Told) → ℕ → StoredRow → View D → View D → Spot → Type 0
TakesRow told table row old new spot = OfBlocks told old table (TakesRowAt old.layout new.pages table spot row)

-- the slot at the spot is free, and has the row once it is put there; each other is as before
abbrev pub FillsFreeSlot : {D : Type 0} → (D → Told) → View D → ℕ → StoredRow → Spot → Type 0
FillsFreeSlot told store table row spot = OfBlocks told store table (FillsSlot (slots_a_page store.layout table) spot row)

-- each slot of each block that the table may have is in use
abbrev pub HasNoPlace : {D : Type 0} → (D → Told) → View D → ℕ → Type 0
HasNoPlace told store table = OfBlocks told store table (IsTableFull store.layout.sizes.heap_blocks)

-- some slot that the table may have is not in use
abbrev pub HasPlace : {D : Type 0} → (D → Told) → View D → ℕ → Type 0
HasPlace told store table = OfBlocks told store table (λ blocks. IsTableFull store.layout.sizes.heap_blocks blocks → ⊥)
