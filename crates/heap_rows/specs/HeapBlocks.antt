-- the pages of a table as lists of slots
use Rattle.std.specs.Prelude.{ℕ, ◌<◌, ◌≤◌, List, [], length, slice_index_or}
use Rattle.store_layout.specs.DiskLayout.{DiskLayout}
use Rattle.page_layout.specs.PageContents.{Slot, HasSlots, IsUnstarted}
use Rattle.disk_trait.specs.Told.{Told}
use Rattle.page_map.specs.Keeps.{Tells}
use Rattle.page_map.specs.PageMap.{PageMap, View, block_at}
use Rattle.page_map.specs.Started.{AreFirst}
use Rattle.heap_rows.specs.Heaps.{relation_of, form_at}

-- the slots of a block
abbrev pub slots_of : List (List Slot) → ℕ → List Slot
slots_of blocks block = slice_index_or blocks block []

-- the first blocks of the table have these slots, and each block behind them isn't started
pub record HasBlocks (layout : DiskLayout) (pages : PageMap) (table : ℕ) (blocks : List (List Slot)) : Type 0 where
  pub within : length blocks ≤ layout.sizes.heap_blocks
  pub started : (block : ℕ) → block < length blocks → HasSlots (form_at layout table) (block_at pages (relation_of table) block) (slots_of blocks block)
  pub unstarted : (block : ℕ) → length blocks ≤ block → block < layout.sizes.heap_blocks → IsUnstarted (block_at pages (relation_of table) block)

-- of the pages of the table the first n are started, and no other is
abbrev pub StartsFirst : DiskLayout → PageMap → ℕ → ℕ → Type 0
StartsFirst layout pages table n = AreFirst layout.sizes.heap_blocks (block_at pages (relation_of table)) n

-- the fact holds of the blocks that the table has, where the disk tells its contents
abbrev pub OfBlocks : {D : Type 0} → (D → Told) → View D → ℕ → (List (List Slot) → Type 0) → Type 0
OfBlocks told store table P = Tells told store → (blocks : List (List Slot)) → HasBlocks store.layout store.pages table blocks → P blocks
