-- calls that leave a tuple's index as it is, and what depends on the index alone
use Rattle.std.proofs.Common.{◌≡◌, ℕ, Option, None, Some, List, [], ◌∷◌, All, map, slice_get, refl, ap, subst}
use Rattle.std.proofs.lemmas.List.{get_or-map, length-map}
use Rattle.block_model.specs.declared.value.Value.{Value}
use Rattle.block_model.specs.declared.value.Value.TheVariants.{Null, Int, Span, Net}
use Rattle.range_tuple.specs.TupleIncludes.{ColumnTakes, TakesThere}
use Rattle.range_tuple.specs.Tuples.{IndexedColumn, emptied, part_of, parts_of, with_row_at, with_value_there}
use Rattle.opclass_any.specs.declared.classes.AnyClass.{AnyClass}

part_with_there : (column : IndexedColumn) (o : Option Value) → part_of (with_value_there column o) ≡ part_of column
part_with_there column None = refl
part_with_there column (Some Null) = refl
part_with_there column (Some (Int n)) = refl
part_with_there column (Some (Span r)) = refl
part_with_there column (Some (Net n)) = refl

-- a row that is added leaves the index
pub parts-with_row : (values : List Value) (columns : List IndexedColumn) → parts_of (map (with_row_at values) columns) ≡ parts_of columns
parts-with_row values [] = refl
parts-with_row values (column ∷ columns) = λ i. part_with_there column (slice_get values column.place) i ∷ parts-with_row values columns i

-- so does a start of another range
pub parts-emptied : (columns : List IndexedColumn) → parts_of (map emptied columns) ≡ parts_of columns
parts-emptied [] = refl
parts-emptied (column ∷ columns) = ap (λ (ps : List (ℕ × AnyClass)). part_of column ∷ ps) (parts-emptied columns)

-- whether a row's values are taken, by the columns of the index
pub takes_by_parts : (columns : List IndexedColumn) (values : List Value) → All (λ (p : ℕ × AnyClass). TakesThere p.1 (slice_get values p.0)) (parts_of columns) → All (ColumnTakes values) columns
takes_by_parts columns values all k d below =
    subst (λ (p : ℕ × AnyClass). TakesThere p.1 (slice_get values p.0)) (get_or-map part_of columns k d (part_of d) below) (all k (part_of d) (rw (length-map columns part_of) below))
