-- range tuples, and what their calls make of them ("BRIN Indexes", "Introduction")
use Rattle.std.specs.Prelude.{◌≡◌, ℕ, ◌+◌, ◌<◌, ◌^◌, Bool, true, false, not, ◌||◌, ◌&&◌, if◌then◌else◌, All, List, ◌∷◌, length, map, sum_by, slice_get, Option, None, Some}
use Rattle.std.specs.List.{list_all}
use Rattle.block_model.specs.declared.schema.Column.{Column as TableColumn}
use Rattle.block_model.specs.declared.schema.Part.{Part}
use Rattle.block_model.specs.declared.value.Value.{Value}
use Rattle.block_model.specs.declared.value.Value.TheVariants.{Null}
use Rattle.block_model.specs.IndexedColumns.{kind_at}
use Rattle.opclass_any.specs.AnyClass.{class_of, empty, add, united, is_of, bytes_of, greatest_size}
use Rattle.range_tuple.specs.NullStates.{has_nulls, has_values, state_of}
use Rattle.opclass_any.specs.declared.classes.AnyClass.{AnyClass}
use Rattle.opclass_any.specs.declared.classes.AnySummary.{AnySummary}
use Rattle.range_tuple.specs.declared.state.NullState.{NullState}
use Rattle.range_tuple.specs.declared.state.NullState.TheVariants.{Nothing}

-- an indexed column of a range: its number in the table, its class, which of nulls and values rows had there, and the
-- summary of the values
pub record IndexedColumn : Type 0 where
  pub place : ℕ
  pub class : AnyClass
  pub state : NullState
  pub summary : AnySummary

pub record Tuple : Type 0 where
  pub range : ℕ
  pub placeholder : Bool
  pub empty : Bool
  pub columns : List IndexedColumn

-- nothing was added in the column
abbrev pub has_nothing : IndexedColumn → Bool
has_nothing column = not (has_nulls column.state) && not (has_values column.state)

-- a tuple of columns is empty exactly where nothing was added in any
abbrev pub tuple_of : ℕ → Bool → List IndexedColumn → Tuple
tuple_of range placeholder columns = record { range = range; placeholder = placeholder; empty = list_all has_nothing columns; columns = columns }

-- a column in which nothing was added
abbrev pub empty_column : List TableColumn → Part → IndexedColumn
empty_column columns part = record {
  place = part.column;
  class = class_of part.class (kind_at columns part.column);
  state = Nothing;
  summary = empty (class_of part.class (kind_at columns part.column));
}

-- the tuple of a range to which no row was added, and the placeholder
abbrev pub empty_tuple : ℕ → Bool → List TableColumn → List Part → Tuple
empty_tuple range placeholder columns parts = tuple_of range placeholder (map (empty_column columns) parts)

abbrev pub empty_placeholder : ℕ → List TableColumn → List Part → Tuple
empty_placeholder range columns parts = empty_tuple range true columns parts

-- the same column of another range, in which nothing was added
abbrev pub emptied : IndexedColumn → IndexedColumn
emptied column = record column { state = Nothing; summary = empty column.class }

-- the empty placeholder of another range of the index
abbrev pub restarted : ℕ → Tuple → Tuple
restarted range t = tuple_of range true (map emptied t.columns)

-- a null sets the state alone; any other value is added to the summary too
abbrev pub with_value : IndexedColumn → Value → IndexedColumn
with_value column Null = record column { state = state_of true (has_values column.state) }
with_value column v = record column { state = state_of (has_nulls column.state) true; summary = add column.class column.summary v }

-- the column's value of a row; a row without one changes nothing
abbrev pub with_value_there : IndexedColumn → Option Value → IndexedColumn
with_value_there column None = column
with_value_there column (Some v) = with_value column v

abbrev pub with_row_at : List Value → IndexedColumn → IndexedColumn
with_row_at values column = with_value_there column (slice_get values column.place)

-- each column with its value of a row
abbrev pub with_row : List Value → Tuple → Tuple
with_row values t = tuple_of t.range t.placeholder (map (with_row_at values) t.columns)

-- nulls and values where either had some; a summary of values joins
abbrev pub united_column : IndexedColumn → IndexedColumn → IndexedColumn
united_column column other = record column {
  state = state_of (has_nulls column.state || has_nulls other.state) (has_values column.state || has_values other.state);
  summary = if has_values other.state then united column.class column.summary other.summary else column.summary;
}

-- column by column
abbrev pub united_columns : List IndexedColumn → List IndexedColumn → List IndexedColumn
united_columns (column ∷ columns) (other ∷ others) = united_column column other ∷ united_columns columns others
united_columns columns others = columns

abbrev pub united_tuple : Tuple → Tuple → Tuple
united_tuple t other = tuple_of t.range t.placeholder (united_columns t.columns other.columns)

-- the indexed column: its number in the table, and its class
abbrev pub part_of : IndexedColumn → ℕ × AnyClass
part_of column = (column.place, column.class)

-- the columns of an index
abbrev pub parts_of : List IndexedColumn → List (ℕ × AnyClass)
parts_of columns = map part_of columns

-- a summary in a state: that of none where no value was added, and where one was it has bytes
pub record IsSummaryIn (class : AnyClass) (state : NullState) (summary : AnySummary) : Type 0 where
  pub of_class : is_of class summary
  pub of_no_value : has_values state ≡ false → summary ≡ empty class
  pub has_bytes : has_values state ≡ true → 0 < length (bytes_of class summary)

abbrev pub IsColumn : IndexedColumn → Type 0
IsColumn column = IsSummaryIn column.class column.state column.summary

-- its state, its summary's length, and its summary at most
abbrev pub column_room : IndexedColumn → ℕ
column_room column = 1 + 2 + greatest_size column.class

-- how many bytes a tuple of the columns has at most: the range, the flags, and each column
abbrev pub tuple_room : List IndexedColumn → ℕ
tuple_room columns = 4 + 1 + sum_by column_room columns

-- what every tuple is
pub record IsTuple (t : Tuple) : Type 0 where
  pub range_fits : t.range < 2 ^ 32
  pub empty_flag : t.empty ≡ list_all has_nothing t.columns
  pub columns : All IsColumn t.columns
