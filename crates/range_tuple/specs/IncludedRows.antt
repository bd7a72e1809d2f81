-- which rows a tuple includes, as a test
use Rattle.std.specs.Prelude.{Bool, false, ◌&&◌, List, slice_get, Option, None, Some}
use Rattle.std.specs.List.{list_all}
use Rattle.block_model.specs.declared.value.Value.{Value}
use Rattle.block_model.specs.declared.value.Value.TheVariants.{Null}
use Rattle.opclass_any.specs.AnyClass.{is_included}
use Rattle.range_tuple.specs.NullStates.{has_nulls, has_values}
use Rattle.range_tuple.specs.Tuples.{IndexedColumn, Tuple}

-- a null where nulls were added, any other value where values were and the summary includes it
abbrev pub includes_value : IndexedColumn → Value → Bool
includes_value column Null = has_nulls column.state
includes_value column v = has_values column.state && is_included column.class column.summary v

-- a row without the column isn't included
abbrev pub includes_there : IndexedColumn → Option Value → Bool
includes_there column None = false
includes_there column (Some v) = includes_value column v

abbrev pub column_includes : List Value → IndexedColumn → Bool
column_includes values column = includes_there column (slice_get values column.place)

-- each column does
unfoldable pub tuple_includes : Tuple → List Value → Bool
tuple_includes t values = list_all (column_includes values) t.columns
