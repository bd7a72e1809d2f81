-- rows of a block that are dropped
use Rattle.std.specs.Prelude.{◌≡◌, ℕ, ◌+◌, ◌<◌, ◌≤◌, List, [], ◌∷◌, ◌++◌, None, set, All, Contains, length}
use Rattle.std.specs.Int.{bytes_high_first}
use Rattle.block_model.specs.declared.place.Spot.{Spot}
use Rattle.store_layout.specs.DiskLayout.{DiskLayout}
use Rattle.page_layout.specs.PageContents.{Slot}
use Rattle.page_map.specs.PageMap.{PageMap}
use Rattle.heap_rows.specs.HeapBlocks.{HasBlocks, slots_of}
use Rattle.heap_rows.specs.RowPlaces.{IsInUse, slot_at}
use Rattle.heap_rows.specs.StoredRows.{stored_rows}

-- the slots ascend from the least one, each greater than the one before it, and all are below the count
abbrev pub AreAscending : ℕ → ℕ → List ℕ → Type 0
AreAscending least count [] = Unit {0}
AreAscending least count (slot ∷ slots) = (least ≤ slot) × (slot < count) × AreAscending (slot + 1) count slots

-- a row of the table stands in each of these slots of the block
abbrev pub AreInUse : DiskLayout → PageMap → ℕ → ℕ → List ℕ → Type 0
AreInUse layout pages table block slots = All (λ slot. IsInUse layout pages table (record { block = block; slot = slot })) slots

-- the slots of a page with these free
unfoldable pub with_free : List Slot → List ℕ → List Slot
with_free slots [] = slots
with_free slots (free ∷ others) = with_free (set slots free None) others

-- the blocks with these slots of that block free
abbrev pub with_slots_free : List (List Slot) → ℕ → List ℕ → List (List Slot)
with_slots_free blocks block free = set blocks block (with_free (slots_of blocks block) free)

-- the table has its blocks, and these slots of that block are free
abbrev pub DropsRows : DiskLayout → PageMap → ℕ → ℕ → List ℕ → List (List Slot) → Type 0
DropsRows layout pages table block free blocks = HasBlocks layout pages table (with_slots_free blocks block free)

-- these slots of the block are free, and each other slot is as before
pub record LeavesSlotsFree (old new : List (List Slot)) (block : ℕ) (free : List ℕ) : Type 0 where
  pub there : All (λ slot. slot_at new (record { block = block; slot = slot }) ≡ None) free
  pub others : (other : Spot) → (other.block ≡ block → Contains free other.slot → ⊥) → slot_at new other ≡ slot_at old other

-- so it is of the blocks that the table has
abbrev pub FreesSlots : ℕ → List ℕ → List (List Slot) → Type 0
FreesSlots block free blocks = LeavesSlotsFree blocks (with_slots_free blocks block free) block free

-- the block has as many rows fewer as these slots are
abbrev pub HasFewerRows : ℕ → List ℕ → List (List Slot) → Type 0
HasFewerRows block free blocks = length (stored_rows (slots_of (with_slots_free blocks block free) block)) + length free ≡ length (stored_rows (slots_of blocks block))

-- the numbers of slots, two bytes each, the high one first
unfoldable pub slots_bytes : List ℕ → List ℕ
slots_bytes [] = []
slots_bytes (slot ∷ slots) = bytes_high_first 2 slot ++ slots_bytes slots
