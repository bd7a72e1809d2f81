-- The order in which the pages of a store stand.
use Rattle.std.proofs.Common.{◌≡◌, inl, inr, ℕ, ◌+◌, ◌<◌, List, length, refl, sym, ap, subst, arith}
use Rattle.std.specs.Prelude.{slice_index}
use Rattle.std.proofs.lemmas.Bool.{cases_lt}
use Rattle.store_layout.specs.DiskLayout.{DiskLayout}
use Rattle.page_layout.specs.PageContents.{Slot}
use Rattle.page_layout.specs.SlotLaws.{heap_front, unstarted_front}
use Rattle.page_map.specs.PageMap.{PageMap, block_at, block_limit}
use Rattle.recovery.specs.PageOrder.{AreInOrder, IsIndexInOrder, StartsFirst, kind_of}
use Rattle.heap_rows.specs.HeapBlocks.{HasBlocks, slots_of}
use Rattle.heap_rows.specs.Heaps.{form_at, relation_of as heap_of}
use Rattle.heap_rows.proofs.Heaps.{limit_is}
use Rattle.index_contents.specs.IndexContents.{index_page, relation_of}
use Rattle.tx_table.specs.LeavesRest.{AreStarted}

module _ (layout : DiskLayout) (pages : PageMap) where
  status_kind : AreStarted layout pages → (block : ℕ) → block < layout.sizes.status_blocks → kind_of (block_at pages 0 block) ≡ 1
  status_kind started block below = ap (λ (page : List ℕ). slice_index page 0) (started block below).1.bytes.2

  -- a table's started blocks are the first ones
  heap_first : (table : ℕ) (blocks : List (List Slot)) → HasBlocks layout pages table blocks → StartsFirst layout.sizes.heap_blocks (block_at pages (heap_of table))
  heap_first table blocks has before block low within some none = elim (cases_lt block (length blocks)) [
    | inl here ↦ omega (arith, none, heap_front (form_at layout table) (block_at pages (heap_of table) before) (slots_of blocks before) (has.started before (omega (arith, low, here))))
    | inr past ↦ some (unstarted_front (block_at pages (heap_of table) block) 8192 refl (has.unstarted block past within))
  ]

  table_first : (table : ℕ) → table < length layout.schema.tables → (blocks : List (List Slot)) → HasBlocks layout pages table blocks → StartsFirst (block_limit layout (1 + table)) (block_at pages (1 + table))
  table_first table below blocks has =
      let number : heap_of table ≡ 1 + table = omega arith in
      subst (λ (r : ℕ). StartsFirst (block_limit layout r) (block_at pages r)) number
      (subst (λ (limit : ℕ). StartsFirst limit (block_at pages (heap_of table))) (sym (limit_is layout table (heap_of table) refl below)) (heap_first table blocks has))

  index_first : (index : ℕ) → IsIndexInOrder layout.sizes.index_blocks (index_page layout pages index) → IsIndexInOrder layout.sizes.index_blocks (block_at pages (1 + length layout.schema.tables + index))
  index_first index order =
      let number : relation_of layout index ≡ 1 + length layout.schema.tables + index = omega arith in
      subst (λ (r : ℕ). IsIndexInOrder layout.sizes.index_blocks (block_at pages r)) number order

  -- pages stand in order where those of the statuses are started, each table has its blocks, and each index is in order
  pub pages_in_order : AreStarted layout pages → ((table : ℕ) → table < length layout.schema.tables → (blocks : List (List Slot)) × HasBlocks layout pages table blocks)
      → ((index : ℕ) → index < length layout.schema.indexes → IsIndexInOrder layout.sizes.index_blocks (index_page layout pages index)) → AreInOrder layout pages
  pages_in_order started blocks orders = record {
    statuses = status_kind started;
    tables = λ table below. table_first table below (blocks table below).0 (blocks table below).1;
    indexes = λ index below. index_first index (orders index below);
  }
