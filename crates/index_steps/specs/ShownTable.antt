-- what the layout, the pages and the page locks of a table's indexes show of the table
use Rattle.std.specs.Prelude.{ℕ, ◌+◌, ◌==◌, if◌then◌else◌, false, List, [], ◌∷◌, length, slice_get, Option, None, Some}
use Rattle.block_model.specs.declared.row.Row.{Row}
use Rattle.block_model.specs.declared.schema.Index.{Index}
use Rattle.store_layout.specs.DiskLayout.{DiskLayout}
use Rattle.page_map.specs.PageMap.{PageMap}
use Rattle.page_locks.specs.LockHolders.{LockState}
use Rattle.coverage.specs.IndexView.{Unstarted}
use Rattle.coverage.specs.Machines.{ShownIndex, ShownTable}
use Rattle.index_contents.specs.IndexContents.{contents}
use Rattle.index_steps.specs.IndexTuples.{contents_of, index_at, shape_of}
use Rattle.index_steps.specs.ShownIndex.{lock_in, tuple_in_place}

-- the numbers of a table's indexes among these, which are numbered from n on
abbrev pub numbers_from : (table n : ℕ) → List Index → List ℕ
numbers_from table n [] = []
numbers_from table n (index ∷ more) = if index.table == table then n ∷ numbers_from table (n + 1) more else numbers_from table (n + 1) more

-- the numbers of a table's indexes, in the order of their declarations
unfoldable pub indexes_of : DiskLayout → ℕ → List ℕ
indexes_of layout table = numbers_from table 0 layout.schema.indexes

-- an index, by its number among all
abbrev pub shown_index : DiskLayout → PageMap → LockState → ℕ → ShownIndex
shown_index layout pages locks index = record {
  contents = contents_of (shape_of layout index);
  pages_per_range = (index_at layout index).pages_per_range;
  autosummarize = (index_at layout index).auto;
  entry = (contents layout pages index).entry;
  tuple = tuple_in_place (shape_of layout index) (contents layout pages index);
  pages = (contents layout pages index).pages;
  lock = lock_in layout locks index;
}

-- an index that isn't there
abbrev pub no_shown_index : ShownIndex
no_shown_index = record {
  contents = contents_of (record { columns = []; parts = [] });
  pages_per_range = 0;
  autosummarize = false;
  entry = λ range. None;
  tuple = λ x. None;
  pages = record { kind = λ p. Unstarted; map_pages = 0; limit = 0 };
  lock = λ p. None;
}

abbrev pub shown_at : DiskLayout → PageMap → LockState → Option ℕ → ShownIndex
shown_at layout pages locks None = no_shown_index
shown_at layout pages locks (Some index) = shown_index layout pages locks index

-- the table, with a heap of so many blocks and these rows
abbrev pub shown_table : DiskLayout → PageMap → LockState → (table rows_per_page blocks : ℕ) → (ℕ → ℕ → Option Row) → ShownTable
shown_table layout pages locks table rows_per_page blocks row = record {
  indexes = length (indexes_of layout table);
  index = λ at. shown_at layout pages locks (slice_get (indexes_of layout table) at);
  rows_per_page = rows_per_page;
  heap_limit = layout.sizes.heap_blocks;
  blocks = blocks;
  row = row;
}
