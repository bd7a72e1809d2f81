-- when a table has no place for a row
use Rattle.std.specs.Prelude.{◌≡◌, ℕ, ◌<◌, List, length, slice_index_or, None, false}
use Rattle.page_layout.specs.PageContents.{Slot}
use Rattle.page_layout.specs.FreeSlots.{is_free}
use Rattle.heap_rows.specs.HeapBlocks.{slots_of}

-- each slot is in use
abbrev pub AreUsed : List Slot → Type 0
AreUsed slots = (slot : ℕ) → slot < length slots → is_free (slice_index_or slots slot None) ≡ false

-- there are as many blocks as the table may have, and each slot of each is in use
pub record IsTableFull (limit : ℕ) (blocks : List (List Slot)) : Type 0 where
  pub all_blocks : length blocks ≡ limit
  pub all_slots : (block : ℕ) → block < length blocks → AreUsed (slots_of blocks block)
