-- what exactly rows leave in a tuple, and what a union adds
use Rattle.std.specs.Prelude.{◌≡◌, ℕ, ◌<◌, Bool, not, ◌||◌, if◌then◌else◌, All, List, [], ◌∷◌, fold, length, slice_get, slice_index_or, Option, None, Some}
use Rattle.std.specs.List.{filter, flat_map, list_any}
use Rattle.block_model.specs.declared.value.Value.{Value}
use Rattle.opclass_api.specs.Conditions.{is_null}
use Rattle.opclass_any.specs.AnyClass.{exact, united}
use Rattle.range_tuple.specs.NullStates.{has_nulls, has_values}
use Rattle.range_tuple.specs.Tuples.{IndexedColumn, Tuple, with_row}

-- rows added one after the other
abbrev pub with_rows : List (List Value) → Tuple → Tuple
with_rows rows t = fold (λ widened row. with_row row widened) t rows

abbrev pub option_list : Option Value → List Value
option_list None = []
option_list (Some v) = v ∷ []

-- the values that rows have in a column of the table, in their order
abbrev pub values_at : ℕ → List (List Value) → List Value
values_at place rows = flat_map (λ row. option_list (slice_get row place)) rows

abbrev pub is_value : Value → Bool
is_value v = not (is_null v)

-- nulls and values are said exactly where some are among these, and the summary is the exact one of those that aren't null
pub record IsExact (values : List Value) (column : IndexedColumn) : Type 0 where
  pub nulls : has_nulls column.state ≡ list_any is_null values
  pub some_values : has_values column.state ≡ list_any is_value values
  pub summary : column.summary ≡ exact column.class (filter is_value values)

-- each column is exactly that of its values in the rows
abbrev pub IsExactTuple : List (List Value) → Tuple → Type 0
IsExactTuple rows t = All (λ column. IsExact (values_at column.place rows) column) t.columns

-- the same, united with what the other column had: its summary joins where it has values
pub record IsExactWith (values : List Value) (other column : IndexedColumn) : Type 0 where
  pub nulls : has_nulls column.state ≡ (list_any is_null values || has_nulls other.state)
  pub some_values : has_values column.state ≡ (list_any is_value values || has_values other.state)
  pub summary : column.summary ≡ (if has_values other.state then united column.class (exact column.class (filter is_value values)) other.summary else exact column.class (filter is_value values))

-- column by column
abbrev pub IsExactUnion : List (List Value) → List IndexedColumn → List IndexedColumn → Type 0
IsExactUnion rows others columns =
    (k : ℕ) (other column : IndexedColumn) → k < length columns → other ≡ slice_index_or others k other → column ≡ slice_index_or columns k column → IsExactWith (values_at column.place rows) other column
