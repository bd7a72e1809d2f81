-- the test of included rows says what TupleIncludes does
use Rattle.std.proofs.Common.{◌≡◌, true, Option, None, Some, List, [], ◌∷◌, All, slice_get, refl}
use Rattle.std.specs.List.{list_all}
use Rattle.std.proofs.lemmas.Bool.{and_from, and_parts, false≢true}
use Rattle.std.proofs.lemmas.List.Elements.{All-head, All-tail, All-nil, All-cons}
use Rattle.block_model.specs.declared.value.Value.{Value}
use Rattle.block_model.specs.declared.value.Value.TheVariants.{Null, Int, Span, Net}
use Rattle.opclass_any.specs.ClassLaws.{tested}
use Rattle.range_tuple.specs.IncludedRows.{column_includes, includes_there, includes_value, tuple_includes}
use Rattle.range_tuple.specs.TupleIncludes.{ColumnIncludes, IncludesThere, IncludesValue, TupleIncludes}
use Rattle.range_tuple.specs.Tuples.{IndexedColumn, Tuple}

value_included : (column : IndexedColumn) (v : Value) → includes_value column v ≡ true → IncludesValue column v
value_included column Null is = is
value_included column (Int n) is = let p = and_parts _ _ is in (p.0, (tested column.class column.summary (Int n)).0 p.1)
value_included column (Span r) is = let p = and_parts _ _ is in (p.0, (tested column.class column.summary (Span r)).0 p.1)
value_included column (Net n) is = let p = and_parts _ _ is in (p.0, (tested column.class column.summary (Net n)).0 p.1)

value_includes : (column : IndexedColumn) (v : Value) → IncludesValue column v → includes_value column v ≡ true
value_includes column Null is = is
value_includes column (Int n) is = and_from _ _ is.0 ((tested column.class column.summary (Int n)).1 is.1)
value_includes column (Span r) is = and_from _ _ is.0 ((tested column.class column.summary (Span r)).1 is.1)
value_includes column (Net n) is = and_from _ _ is.0 ((tested column.class column.summary (Net n)).1 is.1)

there_included : (column : IndexedColumn) (o : Option Value) → includes_there column o ≡ true → IncludesThere column o
there_included column None is = absurd (false≢true is)
there_included column (Some v) is = value_included column v is

there_includes : (column : IndexedColumn) (o : Option Value) → IncludesThere column o → includes_there column o ≡ true
there_includes column None is = absurd is
there_includes column (Some v) is = value_includes column v is

all_included : (values : List Value) (columns : List IndexedColumn) → list_all (column_includes values) columns ≡ true → All (ColumnIncludes values) columns
all_included values [] is = All-nil (ColumnIncludes values)
all_included values (column ∷ columns) is =
    let p = and_parts (column_includes values column) (list_all (column_includes values) columns) is in
    All-cons (ColumnIncludes values) column columns (there_included column (slice_get values column.place) p.0) (all_included values columns p.1)

all_includes : (values : List Value) (columns : List IndexedColumn) → All (ColumnIncludes values) columns → list_all (column_includes values) columns ≡ true
all_includes values [] is = refl
all_includes values (column ∷ columns) is =
    and_from (column_includes values column) (list_all (column_includes values) columns) (there_includes column (slice_get values column.place) (All-head (ColumnIncludes values) column columns is))
    (all_includes values columns (All-tail (ColumnIncludes values) column columns is))

pub row_included : (t : Tuple) (values : List Value) → tuple_includes t values ≡ true → TupleIncludes t values
unfolding tuple_includes
row_included t values is = all_included values t.columns is

pub row_includes : (t : Tuple) (values : List Value) → TupleIncludes t values → tuple_includes t values ≡ true
unfolding tuple_includes
row_includes t values is = all_includes values t.columns is
