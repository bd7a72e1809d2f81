-- what a scan of a table has in hand between its steps
use Rattle.std.specs.Prelude.{◌≡◌, ℕ, ◌*◌, ◌^◌, ◌≤◌, ◌<◌, Bool, false, All, List, [], length, map, replicate, slice_index_or}
use Rattle.block_model.specs.declared.row.Query.{Query}
use Rattle.store_layout.specs.DiskLayout.{DiskLayout}
use Rattle.opclass_any.specs.declared.classes.AnyClass.{AnyClass}
use Rattle.index_steps.specs.IndexTuples.{classes_of, index_at, shape_of}
use Rattle.index_steps.specs.ShownTable.{indexes_of}
use Rattle.bitmap_scan.specs.declared.stage.Stage.{Stage}
use Rattle.bitmap_scan.specs.declared.stage.Stage.TheVariants as stages

-- an index of the table: its number among all, how many heap blocks a range of it has, and its columns with their classes
pub record ScannedIndex : Type 0 where
  pub number : ℕ
  pub pages_per_range : ℕ
  pub classes : List (ℕ × AnyClass)

-- The query; the table's indexes, in order; the stage that the scan is at; how many blocks the table had at its first step; and of
-- each block that the table may have, whether it is a candidate.
pub record ScanHand : Type 0 where
  pub query : Query
  pub indexes : List ScannedIndex
  pub stage : Stage
  pub extent : ℕ
  pub candidates : List Bool

abbrev pub no_scanned_index : ScannedIndex
no_scanned_index = record { number = 0; pages_per_range = 0; classes = [] }

-- the index at that place of the table's
abbrev pub scanned_at : List ScannedIndex → ℕ → ScannedIndex
scanned_at indexes at = slice_index_or indexes at no_scanned_index

-- an index of the layout, by its number
abbrev pub scanned_index : DiskLayout → ℕ → ScannedIndex
scanned_index layout n = record { number = n; pages_per_range = (index_at layout n).pages_per_range; classes = classes_of (shape_of layout n) }

-- the indexes of a table
abbrev pub scanned_indexes : DiskLayout → (table : ℕ) → List ScannedIndex
scanned_indexes layout table = map (scanned_index layout) (indexes_of layout table)

-- before the first step no block is a candidate
abbrev pub first_hand : DiskLayout → Query → ScanHand
first_hand layout query = record {
  query = query;
  indexes = scanned_indexes layout query.table;
  stage = stages.Extent;
  extent = 0;
  candidates = replicate layout.sizes.heap_blocks false;
}

-- the scan is one of a table of the layout
pub record IsScanOf (layout : DiskLayout) (hand : ScanHand) : Type 0 where
  pub table : hand.query.table < length layout.schema.tables
  pub indexes : hand.indexes ≡ scanned_indexes layout hand.query.table
  pub room : length hand.candidates ≡ layout.sizes.heap_blocks

-- a block that isn't there is no candidate
abbrev pub is_candidate : List Bool → ℕ → Bool
is_candidate candidates b = slice_index_or candidates b false

-- the range has a block below the extent, and the index is one of the table's
abbrev pub IsAtRange : List ScannedIndex → (extent at range : ℕ) → Type 0
IsAtRange indexes extent at range = (at < length indexes) × (range * (scanned_at indexes at).pages_per_range < extent)

-- so it is of the range that a scan at this stage judges next
abbrev pub IsAtStage : List ScannedIndex → (extent : ℕ) → Stage → Type 0
IsAtStage indexes extent (stages.Map at range) = IsAtRange indexes extent at range
IsAtStage indexes extent (stages.Tuple at range spot) = IsAtRange indexes extent at range
IsAtStage indexes extent stage = Unit {0}

-- so it is of a scan that has begun
abbrev pub IsBegunAt : List ScannedIndex → (extent : ℕ) → Stage → Type 0
IsBegunAt indexes extent stages.Extent = ⊥
IsBegunAt indexes extent stage = IsAtStage indexes extent stage

-- what holds of every scan: a range of each index has a block or more, and the extent lies within what the table may have
pub record IsHand (hand : ScanHand) : Type 0 where
  pub small : length hand.candidates < 2 ^ 32
  pub some_pages : All (λ (i : ScannedIndex). 1 ≤ i.pages_per_range) hand.indexes
  pub extent : hand.extent ≤ length hand.candidates
  pub at : IsAtStage hand.indexes hand.extent hand.stage

-- ranges are left to judge
abbrev pub IsJudging : Stage → Type 0
IsJudging stages.Judged = ⊥
IsJudging stage = Unit {0}
