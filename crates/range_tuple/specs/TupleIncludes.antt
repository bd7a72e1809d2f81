-- which rows a tuple includes
use Rattle.std.specs.Prelude.{◌≡◌, true, All, List, slice_get, Option, None, Some}
use Rattle.block_model.specs.declared.value.Value.{Value}
use Rattle.block_model.specs.declared.value.Value.TheVariants.{Null}
use Rattle.opclass_any.specs.AnyClass.{takes, includes}
use Rattle.range_tuple.specs.NullStates.{has_nulls, has_values}
use Rattle.range_tuple.specs.Tuples.{IndexedColumn, Tuple}
use Rattle.opclass_any.specs.declared.classes.AnyClass.{AnyClass}

-- a null where nulls were added, any other value where values were and the summary includes it
abbrev pub IncludesValue : IndexedColumn → Value → Type 0
IncludesValue column Null = has_nulls column.state ≡ true
IncludesValue column v = (has_values column.state ≡ true) × includes column.class column.summary v

-- a row without the column isn't included
abbrev pub IncludesThere : IndexedColumn → Option Value → Type 0
IncludesThere column None = ⊥
IncludesThere column (Some v) = IncludesValue column v

-- the column includes its value of a row
abbrev pub ColumnIncludes : List Value → IndexedColumn → Type 0
ColumnIncludes values column = IncludesThere column (slice_get values column.place)

-- each column does
abbrev pub TupleIncludes : Tuple → List Value → Type 0
TupleIncludes t values = All (ColumnIncludes values) t.columns

-- null, or a value of the class's kind
abbrev pub TakesValue : AnyClass → Value → Type 0
TakesValue class Null = Unit {0}
TakesValue class v = takes class v

abbrev pub TakesThere : AnyClass → Option Value → Type 0
TakesThere class None = ⊥
TakesThere class (Some v) = TakesValue class v

abbrev pub ColumnTakes : List Value → IndexedColumn → Type 0
ColumnTakes values column = TakesThere column.class (slice_get values column.place)

-- the row has a value for each column, null or of its class's kind
abbrev pub TupleTakesRow : Tuple → List Value → Type 0
TupleTakesRow t values = All (ColumnTakes values) t.columns
