-- rows added to columns, one after the other
use Rattle.std.proofs.Common.{◌≡◌, ℕ, ◌<◌, Bool, true, false, not, cond, ◌||◌, Option, None, Some, List, [], ◌∷◌, ◌++◌, All, fold, length, map, get_or, slice_get, refl, sym, ap, ◌∙◌, subst, arith}
use Rattle.std.specs.List.{filter, flat_map, list_any}
use Rattle.std.proofs.lemmas.Simd.{map-map}
use Rattle.std.proofs.lemmas.List.{get_or_default}
use Rattle.std.proofs.lemmas.List.Elements.{All-cons, All-nil}
use Rattle.block_model.specs.declared.schema.Column.{Column as TableColumn}
use Rattle.block_model.specs.declared.schema.Part.{Part}
use Rattle.block_model.specs.declared.value.Value.{Value}
use Rattle.block_model.specs.declared.value.Value.TheVariants.{Null, Int, Span, Net}
use Rattle.opclass_api.specs.Conditions.{is_null}
use Rattle.opclass_any.specs.AnyClass.{add, empty, united}
use Rattle.opclass_any.specs.ClassLaws.{added_in_order}
use Rattle.range_tuple.specs.ExactTuples.{IsExact, IsExactTuple, IsExactUnion, IsExactWith, is_value, option_list, values_at, with_rows}
use Rattle.range_tuple.specs.NullStates.{has_nulls, has_values, state_of}
use Rattle.range_tuple.specs.Tuples.{IndexedColumn, Tuple, empty_column, parts_of, tuple_of, united_column, united_columns, with_row, with_row_at, with_value, with_value_there}
use Rattle.opclass_any.specs.declared.classes.AnyClass.{AnyClass}
use Rattle.opclass_any.specs.declared.classes.AnySummary.{AnySummary}
use Rattle.range_tuple.proofs.ByPlace.{get_or-united, length-parts, length-united}

pub nulls_of : (a b : Bool) → has_nulls (state_of a b) ≡ a
nulls_of true true = refl
nulls_of true false = refl
nulls_of false true = refl
nulls_of false false = refl

pub values_of : (a b : Bool) → has_values (state_of a b) ≡ b
values_of true true = refl
values_of true false = refl
values_of false true = refl
values_of false false = refl

-- the column, widened by values
record IsWidenedBy (values : List Value) (old new : IndexedColumn) : Type 0 where
  place : new.place ≡ old.place
  class : new.class ≡ old.class
  nulls : has_nulls new.state ≡ (has_nulls old.state || list_any is_null values)
  some_values : has_values new.state ≡ (has_values old.state || list_any is_value values)
  summary : new.summary ≡ fold (add old.class) old.summary (filter is_value values)

or_none : (b : Bool) → b ≡ (b || false)
or_none true = refl
or_none false = refl

some_or : (a b : Bool) → (true || b) ≡ (a || (true || b))
some_or true b = refl
some_or false b = refl

-- a value first, then the others
after_null : (values : List Value) (old new : IndexedColumn) → IsWidenedBy values (record old { state = state_of true (has_values old.state) }) new → IsWidenedBy (Null ∷ values) old new
after_null values old new by = record {
  place = by.place;
  class = by.class;
  nulls = by.nulls ∙ ap (λ (b : Bool). b || list_any is_null values) (nulls_of true (has_values old.state)) ∙ some_or (has_nulls old.state) (list_any is_null values);
  some_values = by.some_values ∙ ap (λ (b : Bool). b || list_any is_value values) (values_of true (has_values old.state));
  summary = by.summary;
}

after_value : (v : Value) (values : List Value) (old new : IndexedColumn) → is_null v ≡ false → IsWidenedBy values (record old { state = state_of (has_nulls old.state) true; summary = add old.class old.summary v }) new → IsWidenedBy (v ∷ values) old new
after_value v values old new some by = record {
  place = by.place;
  class = by.class;
  nulls = by.nulls ∙ ap (λ (b : Bool). b || list_any is_null values) (nulls_of (has_nulls old.state) true) ∙ ap (λ (b : Bool). has_nulls old.state || (b || list_any is_null values)) (sym some);
  some_values = by.some_values ∙ ap (λ (b : Bool). b || list_any is_value values) (values_of (has_nulls old.state) true) ∙ some_or (has_values old.state) (list_any is_value values) ∙ ap (λ (b : Bool). has_values old.state || (not b || list_any is_value values)) (sym some);
  summary = by.summary ∙ ap (λ (b : Bool). fold (add old.class) old.summary (cond (not b) (v ∷ filter is_value values) (filter is_value values))) (sym some);
}

widened_by : (options : List (Option Value)) (column : IndexedColumn) → IsWidenedBy (flat_map option_list options) column (fold with_value_there column options)
widened_by [] column = record { place = refl; class = refl; nulls = or_none (has_nulls column.state); some_values = or_none (has_values column.state); summary = refl }
widened_by (None ∷ options) column = widened_by options column
widened_by (Some Null ∷ options) column = after_null (flat_map option_list options) column _ (widened_by options (with_value column Null))
widened_by (Some (Int n) ∷ options) column = after_value (Int n) (flat_map option_list options) column _ refl (widened_by options (with_value column (Int n)))
widened_by (Some (Span r) ∷ options) column = after_value (Span r) (flat_map option_list options) column _ refl (widened_by options (with_value column (Span r)))
widened_by (Some (Net n) ∷ options) column = after_value (Net n) (flat_map option_list options) column _ refl (widened_by options (with_value column (Net n)))

-- ---- rows

place_stays : (column : IndexedColumn) (o : Option Value) → (with_value_there column o).place ≡ column.place
place_stays column None = refl
place_stays column (Some Null) = refl
place_stays column (Some (Int n)) = refl
place_stays column (Some (Span r)) = refl
place_stays column (Some (Net n)) = refl

abbrev after : List (List Value) → IndexedColumn → IndexedColumn
after rows column = fold (λ c row. with_row_at row c) column rows

after_is : (rows : List (List Value)) (column : IndexedColumn) → after rows column ≡ fold with_value_there column (map (λ (row : List Value). slice_get row column.place) rows)
after_is [] column = refl
after_is (row ∷ rows) column =
    let next = with_value_there column (slice_get row column.place) in
    after_is rows next ∙ ap (λ (place : ℕ). fold with_value_there next (map (λ (row : List Value). slice_get row place) rows)) (place_stays column (slice_get row column.place))

values_is : (place : ℕ) (rows : List (List Value)) → flat_map option_list (map (λ (row : List Value). slice_get row place) rows) ≡ values_at place rows
values_is place [] = refl
values_is place (row ∷ rows) = ap (λ (vs : List Value). option_list (slice_get row place) ++ vs) (values_is place rows)

columns_after : (rows : List (List Value)) (t : Tuple) → (with_rows rows t).columns ≡ map (after rows) t.columns
columns_after [] t = sym (map_same t.columns)
  where
    map_same : (columns : List IndexedColumn) → map (after []) columns ≡ columns
    map_same [] = refl
    map_same (column ∷ columns) = ap (λ (cs : List IndexedColumn). column ∷ cs) (map_same columns)
columns_after (row ∷ rows) t = columns_after rows (with_row row t) ∙ map-map (after rows) (with_row_at row) t.columns

exact_after : (rows : List (List Value)) (column : IndexedColumn) → has_nulls column.state ≡ false → has_values column.state ≡ false → column.summary ≡ empty column.class → IsExact (values_at (after rows column).place rows) (after rows column)
exact_after rows column no_nulls no_values none =
    let options = map (λ (row : List Value). slice_get row column.place) rows in
    let new = fold with_value_there column options in
    let by = widened_by options column in
    let values = flat_map option_list options in
    let exact : IsExact values new = record {
      nulls = by.nulls ∙ ap (λ (b : Bool). b || list_any is_null values) no_nulls;
      some_values = by.some_values ∙ ap (λ (b : Bool). b || list_any is_value values) no_values;
      summary = by.summary ∙ ap (λ (s : AnySummary). fold (add column.class) s (filter is_value values)) none ∙ ap (λ (a : AnyClass). fold (add a) (empty a) (filter is_value values)) (sym by.class) ∙ sym (added_in_order new.class (filter is_value values));
    } in
    let same : values ≡ values_at new.place rows = values_is column.place rows ∙ ap (λ (place : ℕ). values_at place rows) (sym by.place) in
    subst (λ (c : IndexedColumn). IsExact (values_at c.place rows) c) (sym (after_is rows column)) (subst (λ (vs : List Value). IsExact vs new) same exact)

-- rows added to columns in which nothing was added
exact_columns : (rows : List (List Value)) (columns : List TableColumn) (parts : List Part) → All (λ column. IsExact (values_at column.place rows) column) (map (after rows) (map (empty_column columns) parts))
exact_columns rows columns [] = All-nil (λ column. IsExact (values_at column.place rows) column)
exact_columns rows columns (part ∷ parts) =
    All-cons (λ column. IsExact (values_at column.place rows) column) (after rows (empty_column columns part)) (map (after rows) (map (empty_column columns) parts)) (exact_after rows (empty_column columns part) refl refl refl) (exact_columns rows columns parts)

pub exact_tuple : (range : ℕ) (placeholder : Bool) (columns : List TableColumn) (parts : List Part) (rows : List (List Value)) → IsExactTuple rows (with_rows rows (tuple_of range placeholder (map (empty_column columns) parts)))
exact_tuple range placeholder columns parts rows =
    subst (All (λ column. IsExact (values_at column.place rows) column)) (sym (columns_after rows (tuple_of range placeholder (map (empty_column columns) parts)))) (exact_columns rows columns parts)

-- ---- unions

exact_with : (values : List Value) (column other : IndexedColumn) → IsExact values column → IsExactWith values other (united_column column other)
exact_with values column other exact = record {
  nulls = nulls_of _ _ ∙ ap (λ (b : Bool). b || has_nulls other.state) exact.nulls;
  some_values = values_of _ _ ∙ ap (λ (b : Bool). b || has_values other.state) exact.some_values;
  summary = ap (λ (s : AnySummary). cond (has_values other.state) (united column.class s other.summary) s) exact.summary;
}

pub exact_union : (rows : List (List Value)) (columns others : List IndexedColumn) → parts_of others ≡ parts_of columns → All (λ column. IsExact (values_at column.place rows) column) columns → IsExactUnion rows others (united_columns columns others)
exact_union rows columns others same all = λ k other column within is_other is_column.
    let below : k < length columns = omega (arith, within, length-united columns others) in
    let a = get_or columns k column in
    let exact = all k column below in
    let united : get_or (united_columns columns others) k column ≡ united_column a other = get_or-united columns others k a other column (length-parts others columns same) below (get_or_default columns k column a below) is_other in
    subst (λ (c : IndexedColumn). IsExactWith (values_at c.place rows) other c) (sym (is_column ∙ united)) (exact_with (values_at a.place rows) a other exact)
