-- rows on pages have values of the kinds of their table's columns
use Rattle.std.proofs.Common.{◌≡◌, ℕ, suc, ◌<◌, ◌^◌, ◌==◌, ◌&&◌, true, Option, None, Some, List, [], ◌∷◌, refl, arith, ℤ}
use Rattle.std.specs.Prelude.{FitsSigned, nat_le, nat_lt, negsuc, pos}
use Rattle.std.specs.Int.{w64}
use Rattle.std.proofs.lemmas.Bool.{and_from, eq-eqb, false≢true, lt-ltb}
use Rattle.block_model.specs.declared.value.Kind.{Kind}
use Rattle.block_model.specs.declared.value.Kind.TheVariants as kinds
use Rattle.block_model.specs.declared.value.Value.{Value}
use Rattle.block_model.specs.declared.value.Value.TheVariants.{Int, Net, Null, Span}
use Rattle.block_model.specs.Networks.{IsNetwork, Network}
use Rattle.block_model.specs.Ranges.{Between, Empty, IsRange, Range, leaves_room, lower_of, upper_of}
use Rattle.block_model.specs.ValuesOfKind.{has_kind, is_int8}
use Rattle.page_layout.specs.RowBytes.{AreValues, HaveKinds, IsBound, IsValue}
use Rattle.index_steps.specs.IndexTuples.{are_values, is_bound, is_range, is_value_of}

int8_is : (n : ℤ) → FitsSigned w64 n → is_int8 n ≡ true
int8_is (pos n) fits = let small : n < 2 ^ 63 = omega (arith, fits.sfits) in lt-ltb n (2 ^ 63) small
int8_is (negsuc n) fits = let small : n < 2 ^ 63 = omega (arith, fits.sfits) in lt-ltb n (2 ^ 63) small

bound_is : (b : Option ℤ) → IsBound b → is_bound b ≡ true
bound_is None is = refl
bound_is (Some n) is = int8_is n is

range_is : (r : Range) → IsRange r → IsBound (lower_of r) → IsBound (upper_of r) → is_range r ≡ true
range_is Empty room lower upper = refl
range_is (Between l h) room lower upper =
    and_from (leaves_room l h && is_bound l) (is_bound h) (and_from (leaves_room l h) (is_bound l) room (bound_is l lower)) (bound_is h upper)

at_most : (a b : ℕ) → a < suc b → nat_le a b ≡ true
at_most a b below = grind (arith, below)

network_is : (n : Network) → IsNetwork n → ((n.family == 4) && nat_le n.prefix 32 && nat_lt n.address (2 ^ 32)) ≡ true
network_is n is =
    and_from ((n.family == 4) && nat_le n.prefix 32) (nat_lt n.address (2 ^ 32)) (and_from (n.family == 4) (nat_le n.prefix 32) (eq-eqb n.family 4 is.family) (at_most n.prefix 32 (omega (arith, is.prefix))))
    (lt-ltb n.address (2 ^ 32) is.address)

value_is : (kind : Kind) (v : Value) → IsValue v → has_kind kind v ≡ true → is_value_of kind v ≡ true
value_is kind Null is has = refl
value_is kinds.Int (Int n) is has = int8_is n is
value_is kinds.Span (Span r) is has = range_is r is.0 is.1.0 is.1.1
value_is kinds.Net (Net n) is has = network_is n is
value_is kind v is has = absurd (false≢true has)

pub values_are : (kinds : List Kind) (values : List Value) → HaveKinds kinds values → AreValues values → are_values kinds values ≡ true
values_are [] [] have are = refl
values_are [] (v ∷ values) have are = absurd have
values_are (kind ∷ kinds) [] have are = absurd have
values_are (kind ∷ kinds) (v ∷ values) have are = and_from (is_value_of kind v) (are_values kinds values) (value_is kind v are.0 have.0) (values_are kinds values have.1 are.1)
