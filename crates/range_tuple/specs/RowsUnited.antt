-- what a tuple has once rows are united with what it held
use Rattle.std.specs.Prelude.{◌≡◌, ℕ, ◌<◌, ◌||◌, if◌then◌else◌, List, length, slice_index_or}
use Rattle.std.specs.List.{filter, list_any}
use Rattle.block_model.specs.declared.value.Value.{Value}
use Rattle.opclass_api.specs.Conditions.{is_null}
use Rattle.opclass_any.specs.AnyClass.{exact, united}
use Rattle.range_tuple.specs.ExactTuples.{is_value, values_at}
use Rattle.range_tuple.specs.NullStates.{has_nulls, has_values}
use Rattle.range_tuple.specs.Tuples.{IndexedColumn}

-- nulls and values are said where the column held some, or some are among these; and where values are, their exact summary is united
-- with the one that it held
pub record UnitesValues (values : List Value) (held column : IndexedColumn) : Type 0 where
  pub nulls : has_nulls column.state ≡ (has_nulls held.state || list_any is_null values)
  pub some_values : has_values column.state ≡ (has_values held.state || list_any is_value values)
  pub summary : column.summary ≡ (if list_any is_value values then united held.class held.summary (exact held.class (filter is_value values)) else held.summary)

-- column by column
abbrev pub UnitesRows : List (List Value) → List IndexedColumn → List IndexedColumn → Type 0
UnitesRows rows helds columns =
    (k : ℕ) (held column : IndexedColumn) → k < length columns → held ≡ slice_index_or helds k held → column ≡ slice_index_or columns k column → UnitesValues (values_at column.place rows) held column
