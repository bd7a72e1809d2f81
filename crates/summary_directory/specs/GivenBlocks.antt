-- which blocks a query has to read, by what the indexes of its table show
use Rattle.std.specs.Prelude.{ℕ, ◌/◌, Bool, true, List, Option, None, Some, filter}
use Rattle.std.specs.List.{list_all, range_with_len}
use Rattle.block_model.specs.declared.row.Cond.{Cond}
use Rattle.block_model.specs.declared.row.Query.{Query}
use Rattle.store_layout.specs.DiskLayout.{DiskLayout}
use Rattle.index_steps.specs.IndexTuples.{IndexShape, index_at, seen, shape_of}
use Rattle.index_steps.specs.ShownTable.{indexes_of}
use Rattle.summary_directory.specs.Shown.{Shown}

-- a range without a tuple is kept, and one with a tuple where that keeps the conditions
abbrev pub keeps_range : IndexShape → List Cond → Option (List ℕ) → Bool
keeps_range shape conds None = true
keeps_range shape conds (Some bytes) = (seen shape bytes).keeps conds

-- the range of a block in an index
abbrev pub range_of : DiskLayout → (index block : ℕ) → ℕ
range_of layout index block = block / (index_at layout index).pages_per_range

-- the index keeps the block's range
abbrev pub gives : DiskLayout → Shown → Query → (block index : ℕ) → Bool
gives layout shown query block index = keeps_range (shape_of layout index) query.conds (shown.tuple index (range_of layout index block))

-- each index of the table does
abbrev pub is_given : DiskLayout → Shown → Query → (block : ℕ) → Bool
is_given layout shown query block = list_all (gives layout shown query block) (indexes_of layout query.table)

-- the given blocks of the table, in ascending order
abbrev pub given_blocks : DiskLayout → Shown → Query → List ℕ
given_blocks layout shown query = filter (is_given layout shown query) (range_with_len 0 (shown.extent query.table))
