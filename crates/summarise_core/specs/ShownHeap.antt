-- what the heap of an index's table shows of the protocol's index
use Rattle.std.specs.Prelude.{◌≡◌, ℕ, List, length}
use Rattle.store_layout.specs.DiskLayout.{DiskLayout}
use Rattle.page_layout.specs.PageContents.{Slot}
use Rattle.coverage.specs.IndexView.{IndexView}
use Rattle.index_steps.specs.IndexTuples.{index_at}
use Rattle.index_steps.specs.ShownRows.{rows_in}

-- how many blocks of the heap a range of the index has, the number of the table, and the slots of its blocks
pub record Heap : Type 0 where
  pub pages_per_range : ℕ
  pub table : ℕ
  pub blocks : List (List Slot)

-- the heap of these blocks, for the index of that number
abbrev pub heap_of : DiskLayout → ℕ → List (List Slot) → Heap
heap_of layout index blocks = record { pages_per_range = (index_at layout index).pages_per_range; table = (index_at layout index).table; blocks = blocks }

-- the protocol's index is over the rows in use of the heap, deleted or not
pub record ShowsHeap (heap : Heap) (w : IndexView) : Type 0 where
  pub pages_per_range : w.pages_per_range ≡ heap.pages_per_range
  pub blocks : w.blocks ≡ length heap.blocks
  pub row : (b k : ℕ) → w.row b k ≡ rows_in heap.table heap.blocks b k
