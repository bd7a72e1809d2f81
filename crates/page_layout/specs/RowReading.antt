-- the values that stand in the bytes of a row
use Rattle.std.specs.Prelude.{ℕ, ℤ, ◌/◌, ◌%◌, ◌==◌, Bool, List, [], ◌∷◌, drop, slice_index, None, Some, if◌then◌else◌}
use Rattle.block_model.specs.declared.value.Kind.{Kind}
use Rattle.block_model.specs.declared.value.Kind.TheVariants as kinds
use Rattle.block_model.specs.declared.value.Value.{Value}
use Rattle.block_model.specs.declared.value.Value.TheVariants.{Null, Int, Span, Net}
use Rattle.block_model.specs.Ranges.{Range, Empty, Between}
use Rattle.block_model.specs.Networks.{network_v4}
use Rattle.block_model.specs.RowSize.{value_size}
use Rattle.page_layout.specs.RowBytes.{StoredRow}
use Rattle.index_layout.specs.Fields.{field_at, number_of}
use Rattle.index_layout.specs.Int8.{int8_at}

-- the number of n bytes from a place
abbrev pub number_at : List ℕ → ℕ → ℕ → ℕ
number_at bytes at n = number_of (field_at bytes at n)

-- the range of these flags and bounds
abbrev pub stored_range : ℕ → ℤ → ℤ → Range
stored_range flags l h =
    if flags == 0 then Between (Some l) (Some h)
    else (if flags == 2 then Between None (Some h)
    else (if flags == 4 then Between (Some l) None
    else (if flags == 6 then Between None None
    else Empty)))

-- the value in its column
abbrev pub value_in : Kind → List ℕ → Value
value_in kinds.Int bytes = Int (int8_at bytes 0)
value_in kinds.Span bytes = Span (stored_range (slice_index bytes 0) (int8_at bytes 1) (int8_at bytes 9))
value_in kinds.Net bytes = Net (network_v4 (number_at bytes 2 4) (slice_index bytes 1))

abbrev pub column_in : Bool → Kind → List ℕ → Value
column_in null kind bytes = if null then Null else value_in kind bytes

-- the values of the columns whose null bits these are
unfoldable pub columns_in : List Kind → ℕ → List ℕ → List Value
columns_in [] bits bytes = []
columns_in (kind ∷ kinds) bits bytes = column_in (bits % 2 == 1) kind bytes ∷ columns_in kinds (bits / 2) (drop (value_size kind) bytes)

-- the row whose bytes these are
unfoldable pub row_in : List Kind → List ℕ → StoredRow
row_in kinds bytes = record { id = record { t = number_at bytes 1 8; k = number_at bytes 9 4 }; deleter = number_at bytes 13 8; values = columns_in kinds (slice_index bytes 21) (drop 22 bytes) }
