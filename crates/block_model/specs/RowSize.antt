-- how many bytes a row takes on a page
use Rattle.std.specs.Prelude.{ℕ, ◌+◌, List, sum_by}
use Rattle.block_model.specs.declared.value.Kind.{Kind}
use Rattle.block_model.specs.declared.value.Kind.TheVariants as kinds

-- a number; a flags byte and two bounds; a family, a prefix and an address
abbrev pub value_size : Kind → ℕ
value_size kinds.Int = 8
value_size kinds.Span = 17
value_size kinds.Net = 6

-- 22 bytes (whether it is in use, its id, its deleter, which columns are null), and a value for each column
abbrev pub row_size : List Kind → ℕ
row_size columns = 22 + sum_by value_size columns
