-- an explain that judged each range by what is shown
use Rattle.std.specs.Prelude.{◌≡◌, ℕ, ◌<◌, length, Some}
use Rattle.block_model.specs.declared.row.Query.{Query}
use Rattle.store_layout.specs.DiskLayout.{DiskLayout}
use Rattle.coverage.specs.Table.{TableScan, TableState}
use Rattle.coverage.specs.TableSteps.{first_block}
use Rattle.index_steps.specs.IndexTuples.{index_at, shape_of}
use Rattle.index_steps.specs.ShownTable.{indexes_of}
use Rattle.summary_directory.specs.GivenBlocks.{keeps_range}
use Rattle.summary_directory.specs.LeavesOut.{number_at}
use Rattle.summary_directory.specs.Shown.{Shown}

-- The table is that of the query, with its indexes; the scan has the extent that is shown; and of each index it has judged each range below
-- the extent, as the tuple that is shown for it keeps the conditions or doesn't.
pub record JudgesAsShown (layout : DiskLayout) (shown : Shown) (query : Query) (w : TableState) (scan : TableScan) : Type 0 where
  pub indexes : w.indexes ≡ length (indexes_of layout query.table)
  pub pages_per_range : (i : ℕ) → i < w.indexes → (w.index i).pages_per_range ≡ (index_at layout (number_at layout query.table i)).pages_per_range
  pub extent : scan.extent ≡ shown.extent query.table
  pub judged : (i range : ℕ) → i < w.indexes → first_block w i range < scan.extent
      → scan.judged i range ≡ Some (keeps_range (shape_of layout (number_at layout query.table i)) query.conds (shown.tuple (number_at layout query.table i) range))
