-- the bytes of a tuple
use Rattle.std.specs.Prelude.{ℕ, ◌+◌, Bool, if◌then◌else◌, List, [], ◌∷◌, ◌++◌, length, map}
use Rattle.std.specs.Int.{bytes_high_first}
use Rattle.std.specs.List.{flat_map}
use Rattle.opclass_any.specs.AnyClass.{bytes_of}
use Rattle.range_tuple.specs.NullStates.{number_of, has_values}
use Rattle.range_tuple.specs.Tuples.{IndexedColumn, Tuple}

-- the summary where values were added, else none
unfoldable pub summary_bytes : IndexedColumn → List ℕ
summary_bytes column = if has_values column.state then bytes_of column.class column.summary else []

-- the number of the state
abbrev pub state_number : IndexedColumn → ℕ
state_number column = number_of column.state

-- 2 bytes of the summary's length, 0 where there is none
unfoldable pub length_bytes : IndexedColumn → List ℕ
length_bytes column = bytes_high_first 2 (length (summary_bytes column))

-- 1 byte a column
abbrev pub states_bytes : List IndexedColumn → List ℕ
states_bytes columns = map state_number columns

abbrev pub lengths_bytes : List IndexedColumn → List ℕ
lengths_bytes columns = flat_map length_bytes columns

abbrev pub summaries_bytes : List IndexedColumn → List ℕ
summaries_bytes columns = flat_map summary_bytes columns

-- the states of all columns, then the lengths of all, then the summaries of all
unfoldable pub columns_bytes : List IndexedColumn → List ℕ
columns_bytes columns = states_bytes columns ++ (lengths_bytes columns ++ summaries_bytes columns)

-- bit 0 placeholder, bit 1 empty
abbrev pub flags_of : Bool → Bool → ℕ
flags_of placeholder empty = (if placeholder then 1 else 0) + (if empty then 2 else 0)

-- 4 bytes of the range, 1 of flags, and the columns
unfoldable pub tuple_bytes : Tuple → List ℕ
tuple_bytes t = bytes_high_first 4 t.range ++ flags_of t.placeholder t.empty ∷ columns_bytes t.columns
