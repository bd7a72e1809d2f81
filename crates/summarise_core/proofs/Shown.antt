-- an index of a table that pages, locks and heap show, by its place among the table's
use Rattle.std.proofs.Common.{◌≡◌, ℕ, List, length, Some, refl}
use Rattle.std.specs.Prelude.{slice_get}
use Rattle.store_layout.specs.DiskLayout.{DiskLayout}
use Rattle.page_layout.specs.PageContents.{Slot}
use Rattle.page_map.specs.PageMap.{PageMap}
use Rattle.page_locks.specs.LockHolders.{LockState}
use Rattle.heap_rows.specs.Heaps.{slots_a_page}
use Rattle.coverage.specs.Machines.{Unseen, table_state}
use Rattle.coverage.specs.Table.{TableState, index_view_at}
use Rattle.index_contents.specs.IndexContents.{contents}
use Rattle.index_steps.specs.IndexTuples.{shape_of}
use Rattle.index_steps.specs.ShownIndex.{Shows, lock_in}
use Rattle.index_steps.specs.ShownRows.{rows_in, shown_by}
use Rattle.index_steps.specs.ShownTable.{indexes_of}
use Rattle.index_steps.proofs.TableIndexes as of_table
use Rattle.summarise_core.specs.ShownHeap.{ShowsHeap, heap_of}
use Rattle.summarise_core.specs.SummariseHands.{table_of}
use Rattle.summarise_core.specs.Summarises.{in_range_of}

module _ (layout : DiskLayout) (pages : PageMap) (locks : LockState) (blocks : List (List Slot)) (n at : ℕ) (there : slice_get (indexes_of layout (table_of layout n)) at ≡ Some n) (u : Unseen) where
  abbrev w : TableState
  w = table_state (shown_by layout pages locks (table_of layout n) blocks) u

  pub shows_here : Shows (shape_of layout n) (contents layout pages n) (lock_in layout locks n) (index_view_at at w)
  shows_here = of_table.shows_here layout pages locks (table_of layout n) (slots_a_page layout (table_of layout n)) (length blocks) (rows_in (table_of layout n) blocks) at n there u

  pub each_here : (w.index at).pages_per_range ≡ in_range_of layout n
  each_here = of_table.each_here layout pages locks (table_of layout n) (slots_a_page layout (table_of layout n)) (length blocks) (rows_in (table_of layout n) blocks) at n there u

  pub heap_here : ShowsHeap (heap_of layout n blocks) (index_view_at at w)
  heap_here = record { pages_per_range = each_here; blocks = refl; row = λ b k. refl }
