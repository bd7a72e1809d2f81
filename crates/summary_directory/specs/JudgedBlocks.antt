-- the given blocks, by indexes that are in hand
use Rattle.std.specs.Prelude.{ℕ, ◌/◌, Bool, true, List, Option, None, Some, filter}
use Rattle.std.specs.List.{list_all, range_with_len}
use Rattle.block_model.specs.declared.row.Cond.{Cond}
use Rattle.block_model.specs.declared.row.Query.{Query}
use Rattle.opclass_any.specs.declared.classes.AnyClass.{AnyClass}
use Rattle.range_tuple.specs.TupleReading.{tuple_in}
use Rattle.index_steps.specs.IndexTuples.{keeps_conds}
use Rattle.bitmap_scan.specs.ScanHands.{ScannedIndex}
use Rattle.summary_directory.specs.Shown.{Shown}

-- a range without a tuple is kept, and one with a tuple where that keeps the conditions
abbrev pub keeps_cell : List (ℕ × AnyClass) → List Cond → Option (List ℕ) → Bool
keeps_cell classes conds None = true
keeps_cell classes conds (Some bytes) = keeps_conds (tuple_in classes bytes) conds

-- the index keeps the block's range
abbrev pub gives_by : Shown → List Cond → (block : ℕ) → ScannedIndex → Bool
gives_by shown conds block index = keeps_cell index.classes conds (shown.tuple index.number (block / index.pages_per_range))

-- each does
abbrev pub blocks_by : List ScannedIndex → Shown → Query → List ℕ
blocks_by indexes shown query = filter (λ block. list_all (gives_by shown query.conds block) indexes) (range_with_len 0 (shown.extent query.table))
