-- rows of a table are taken by the classes of its indexes
use Rattle.std.proofs.Common.{◌≡◌, true, ℕ, zero, suc, ◌<◌, All, List, [], ◌∷◌, map, length, slice_get, Some, refl, sym, subst, arith}
use Rattle.std.specs.Prelude.{nat_lt}
use Rattle.std.specs.List.{list_all}
use Rattle.std.proofs.lemmas.Bool.{and_parts, false≢true, ltb-true}
use Rattle.std.proofs.lemmas.List.Elements.{All-nil, All-cons}
use Rattle.block_model.specs.declared.schema.Class.{Class}
use Rattle.block_model.specs.declared.schema.Column.{Column}
use Rattle.block_model.specs.declared.schema.Part.{Part}
use Rattle.block_model.specs.declared.value.Kind.{Kind}
use Rattle.block_model.specs.declared.value.Kind.TheVariants as kinds
use Rattle.block_model.specs.declared.value.Value.{Value}
use Rattle.block_model.specs.declared.value.Value.TheVariants.{Null, Int, Span, Net}
use Rattle.block_model.specs.IndexedColumns.{kind_at}
use Rattle.block_model.specs.ClassLimits.{class_is_lawful, takes_kind}
use Rattle.block_model.specs.ValuesOfKind.{has_kind}
use Rattle.opclass_any.specs.AnyClass.{class_of}
use Rattle.opclass_any.specs.declared.classes.AnyClass.{AnyClass}
use Rattle.range_tuple.specs.KindValues.{IsOfKind}
use Rattle.range_tuple.specs.TupleIncludes.{TakesThere, TakesValue}
use Rattle.range_tuple.specs.Tuples.{empty_column, part_of, parts_of}
use Rattle.index_steps.specs.IndexTuples.{IndexShape, TakesValues, classes_of, have_kinds, kinds_of}

-- classes take the values of the kinds that they take
abbrev pub AreTaken : Type 0
AreTaken = (class : Class) (kind : Kind) (v : Value) → takes_kind class kind ≡ true → IsOfKind kind v → TakesValue (class_of class kind) v

of_kind : (kind : Kind) (v : Value) → has_kind kind v ≡ true → IsOfKind kind v
of_kind kind Null is = tt
of_kind kinds.Int (Int n) is = tt
of_kind kinds.Span (Span r) is = tt
of_kind kinds.Net (Net n) is = tt
of_kind kind v is = absurd (false≢true is)

-- a row has a value of its kind in each column
value_there : (columns : List Column) (values : List Value) (k : ℕ) → have_kinds (map (λ (column : Column). column.kind) columns) values ≡ true → k < length columns → (v : Value) × (slice_get values k ≡ Some v) × (has_kind (kind_at columns k) v ≡ true)
value_there [] values k is below = absurd (omega (arith, below))
value_there (column ∷ columns) [] k is below = absurd (false≢true is)
value_there (column ∷ columns) (v ∷ values) zero is below = (v, refl, (and_parts (has_kind column.kind v) _ is).0)
value_there (column ∷ columns) (v ∷ values) (suc k) is below = value_there columns values k (and_parts (has_kind column.kind v) _ is).1 (omega (arith, below))

-- and the class of an indexed column takes it
one_taken : AreTaken → (columns : List Column) (values : List Value) (part : Part) → have_kinds (map (λ (column : Column). column.kind) columns) values ≡ true → nat_lt part.column (length columns) ≡ true → class_is_lawful columns part ≡ true
    → TakesThere (class_of part.class (kind_at columns part.column)) (slice_get values part.column)
one_taken taken columns values part is within lawful =
    let kind = kind_at columns part.column in
    let v = value_there columns values part.column is (ltb-true part.column (length columns) within) in
    subst (TakesThere (class_of part.class kind)) (sym v.1) (taken part.class kind v.0 (and_parts (takes_kind part.class kind) _ lawful).0 (of_kind kind v.0 v.2))

each_taken : AreTaken → (columns : List Column) (values : List Value) (parts : List Part) → have_kinds (map (λ (column : Column). column.kind) columns) values ≡ true → list_all (λ (p : Part). nat_lt p.column (length columns)) parts ≡ true
    → list_all (class_is_lawful columns) parts ≡ true → All (λ (p : ℕ × AnyClass). TakesThere p.1 (slice_get values p.0)) (parts_of (map (empty_column columns) parts))
each_taken taken columns values [] is within lawful = All-nil (λ (p : ℕ × AnyClass). TakesThere p.1 (slice_get values p.0))
each_taken taken columns values (part ∷ parts) is within lawful =
    All-cons (λ (p : ℕ × AnyClass). TakesThere p.1 (slice_get values p.0)) (part_of (empty_column columns part)) (parts_of (map (empty_column columns) parts))
    (one_taken taken columns values part is (and_parts _ _ within).0 (and_parts _ _ lawful).0)
    (each_taken taken columns values parts is (and_parts _ _ within).1 (and_parts _ _ lawful).1)

pub takes_values : AreTaken → (shape : IndexShape) (values : List Value) → list_all (λ (p : Part). nat_lt p.column (length shape.columns)) shape.parts ≡ true → list_all (class_is_lawful shape.columns) shape.parts ≡ true
    → have_kinds (kinds_of shape) values ≡ true → TakesValues shape values
unfolding classes_of
takes_values taken shape values within lawful is = record { kinds = is; taken = each_taken taken shape.columns values shape.parts is within lawful }
