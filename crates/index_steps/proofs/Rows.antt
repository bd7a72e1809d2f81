-- the values of rows, as they are added to tuples
use Rattle.std.proofs.Common.{◌≡◌, ◌^◌, ◌==◌, ◌&&◌, Bool, true, false, cond, Option, None, Some, List, [], ◌∷◌, All, map, refl, ℤ}
use Rattle.std.specs.Prelude.{IfSome, nat_le, nat_lt}
use Rattle.std.proofs.lemmas.Bool.{and_from, and_parts, eqb-true, false≢true, leb-true, ltb-true}
use Rattle.std.proofs.lemmas.List.Elements.{All-cons, All-nil}
use Rattle.block_model.specs.declared.row.Row.{Row}
use Rattle.block_model.specs.declared.value.Kind.{Kind}
use Rattle.block_model.specs.declared.value.Kind.TheVariants as kinds
use Rattle.block_model.specs.declared.value.Value.{Value}
use Rattle.block_model.specs.declared.value.Value.TheVariants.{Int, Net, Null, Span}
use Rattle.block_model.specs.Networks.{IsNetwork, Network}
use Rattle.block_model.specs.Ranges.{Between, Empty, IsRange, Range, leaves_room}
use Rattle.block_model.specs.ValuesOfKind.{HasBounds, has_kind, is_int8}
use Rattle.range_tuple.specs.OwnKinds.{IsOfItsKind}
use Rattle.index_steps.specs.IndexTuples.{IndexShape, are_values, have_kinds, is_bound, is_range, is_value_of, kinds_of, row_values}

-- ---- a value that is one of its kind

bound : (b : Option ℤ) → is_bound b ≡ true → IfSome b (λ n. is_int8 n ≡ true)
bound None is = tt
bound (Some n) is = is

range : (r : Range) → is_range r ≡ true → IsRange r × HasBounds r
range Empty is = (tt, tt)
range (Between lower upper) is =
    let all = and_parts (leaves_room lower upper && is_bound lower) (is_bound upper) is in
    let first = and_parts (leaves_room lower upper) (is_bound lower) all.0 in
    (first.0, (bound lower first.1, bound upper all.1))

network : (n : Network) → ((n.family == 4) && nat_le n.prefix 32 && nat_lt n.address (2 ^ 32)) ≡ true → IsNetwork n
network n is =
    let all = and_parts ((n.family == 4) && nat_le n.prefix 32) (nat_lt n.address (2 ^ 32)) is in
    let first = and_parts (n.family == 4) (nat_le n.prefix 32) all.0 in
    record { family = eqb-true n.family 4 first.0; prefix = leb-true n.prefix 32 first.1; address = ltb-true n.address (2 ^ 32) all.1 }

pub null_known : IsOfItsKind Null
null_known kind is = tt

known : (kind : Kind) (v : Value) → is_value_of kind v ≡ true → IsOfItsKind v
known kind Null is other has = tt
known kinds.Int (Int n) is kinds.Int has = is
known kinds.Int (Int n) is other has = absurd (false≢true has)
known kinds.Span (Span r) is kinds.Span has = range r is
known kinds.Span (Span r) is other has = absurd (false≢true has)
known kinds.Net (Net n) is kinds.Net has = network n is
known kinds.Net (Net n) is other has = absurd (false≢true has)
known kind v is other has = absurd (false≢true is)

has : (kind : Kind) (v : Value) → is_value_of kind v ≡ true → has_kind kind v ≡ true
has kind Null is = refl
has kinds.Int (Int n) is = refl
has kinds.Span (Span r) is = refl
has kinds.Net (Net n) is = refl
has kind v is = absurd (false≢true is)

-- ---- rows of them

all_known : (kinds : List Kind) (values : List Value) → are_values kinds values ≡ true → All IsOfItsKind values
all_known [] [] are = All-nil IsOfItsKind
all_known [] (v ∷ values) are = absurd (false≢true are)
all_known (kind ∷ kinds) [] are = absurd (false≢true are)
all_known (kind ∷ kinds) (v ∷ values) are =
    let both = and_parts (is_value_of kind v) (are_values kinds values) are in
    All-cons IsOfItsKind v values (known kind v both.0) (all_known kinds values both.1)

all_have : (kinds : List Kind) (values : List Value) → are_values kinds values ≡ true → have_kinds kinds values ≡ true
all_have [] [] are = refl
all_have [] (v ∷ values) are = absurd (false≢true are)
all_have (kind ∷ kinds) [] are = absurd (false≢true are)
all_have (kind ∷ kinds) (v ∷ values) are =
    let both = and_parts (is_value_of kind v) (are_values kinds values) are in
    and_from (has_kind kind v) (have_kinds kinds values) (has kind v both.0) (all_have kinds values both.1)

nulls : (kinds : List Kind) → are_values kinds (map (λ (kind : Kind). Null) kinds) ≡ true
nulls [] = refl
nulls (kind ∷ kinds) = nulls kinds

by_test : (kinds : List Kind) (values : List Value) (b : Bool) → are_values kinds values ≡ b → are_values kinds (cond b values (map (λ (kind : Kind). Null) kinds)) ≡ true
by_test kinds values true are = are
by_test kinds values false are = nulls kinds

-- the values of a row are of the table, whatever the row
row_are : (shape : IndexShape) (r : Row) → are_values (kinds_of shape) (row_values shape r) ≡ true
unfolding row_values
row_are shape r = by_test (kinds_of shape) r.values (are_values (kinds_of shape) r.values) refl

pub row_known : (shape : IndexShape) (r : Row) → All IsOfItsKind (row_values shape r)
row_known shape r = all_known (kinds_of shape) (row_values shape r) (row_are shape r)

pub row_has_kinds : (shape : IndexShape) (r : Row) → have_kinds (kinds_of shape) (row_values shape r) ≡ true
row_has_kinds shape r = all_have (kinds_of shape) (row_values shape r) (row_are shape r)
