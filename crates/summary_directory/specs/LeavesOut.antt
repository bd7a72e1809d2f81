-- why a block isn't given
use Rattle.std.specs.Prelude.{◌≡◌, ℕ, ◌<◌, false, List, length, slice_index, Some}
use Rattle.block_model.specs.declared.row.Query.{Query}
use Rattle.store_layout.specs.DiskLayout.{DiskLayout}
use Rattle.index_steps.specs.IndexTuples.{seen, shape_of}
use Rattle.index_steps.specs.ShownTable.{indexes_of}
use Rattle.summary_directory.specs.GivenBlocks.{range_of}
use Rattle.summary_directory.specs.Shown.{Shown}

-- the index at a place among the table's
abbrev pub number_at : DiskLayout → (table at : ℕ) → ℕ
number_at layout table at = slice_index (indexes_of layout table) at

-- that index has a tuple for the block's range that doesn't keep the conditions
pub record LeavesOut (layout : DiskLayout) (shown : Shown) (query : Query) (at block : ℕ) : Type 0 where
  pub of_table : at < length (indexes_of layout query.table)
  pub bytes : List ℕ
  pub there : shown.tuple (number_at layout query.table at) (range_of layout (number_at layout query.table at) block) ≡ Some bytes
  pub drops : (seen (shape_of layout (number_at layout query.table at)) bytes).keeps query.conds ≡ false
