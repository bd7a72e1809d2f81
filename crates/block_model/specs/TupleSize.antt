-- how many bytes a range tuple has at most ("BRIN Indexes": one summary for each indexed column of a range)
use Rattle.std.specs.Prelude.{ℕ, ◌+◌, ◌*◌, ◌/◌, List, sum_by}
use Rattle.block_model.specs.declared.value.Kind.{Kind}
use Rattle.block_model.specs.declared.value.Kind.TheVariants as kinds
use Rattle.block_model.specs.declared.schema.Class.{Class}
use Rattle.block_model.specs.declared.schema.Class.TheVariants as classes
use Rattle.block_model.specs.declared.schema.Column.{Column}
use Rattle.block_model.specs.declared.schema.Part.{Part}
use Rattle.block_model.specs.IndexedColumns.{kind_at}

-- the greatest summary of a class on a kind: two bounds; a count and elements; flags and a range or a network; bits
abbrev pub summary_size : Class → Kind → ℕ
summary_size classes.MinMax kind = 16
summary_size (classes.Multi limit) kind = 2 + 9 * limit
summary_size classes.Inclusion kinds.Net = 7
summary_size classes.Inclusion kind = 18
summary_size (classes.Bloom bits hashes) kind = bits / 8

-- the state, the summary's length, and the summary
abbrev pub part_size : List Column → Part → ℕ
part_size columns part = 1 + 2 + summary_size part.class (kind_at columns part.column)

-- the range's number, the flags, and a part for each indexed column
abbrev pub tuple_size : List Column → List Part → ℕ
tuple_size columns parts = 4 + 1 + sum_by (part_size columns) parts
