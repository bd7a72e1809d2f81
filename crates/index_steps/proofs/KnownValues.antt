-- values that were made are values of the kinds that they have
use Rattle.std.proofs.Common.{◌≡◌, ℕ, suc, ◌<◌, ◌^◌, ◌==◌, ◌&&◌, true, Option, None, Some, List, [], ◌∷◌, All, refl, arith, ℤ}
use Rattle.std.specs.Prelude.{IfSome, nat_le, nat_lt}
use Rattle.std.proofs.lemmas.Bool.{and_from, and_parts, eq-eqb, false≢true, lt-ltb}
use Rattle.std.proofs.lemmas.List.Elements.{All-head, All-tail}
use Rattle.block_model.specs.declared.value.Kind.{Kind}
use Rattle.block_model.specs.declared.value.Kind.TheVariants as kinds
use Rattle.block_model.specs.declared.value.Value.{Value}
use Rattle.block_model.specs.declared.value.Value.TheVariants.{Int, Net, Null, Span}
use Rattle.block_model.specs.Networks.{IsNetwork, Network}
use Rattle.block_model.specs.Ranges.{Between, Empty, IsRange, Range, leaves_room}
use Rattle.block_model.specs.ValuesOfKind.{HasBounds, IsValueOf, has_kind, is_int8}
use Rattle.index_steps.specs.IndexTuples.{are_values, have_kinds, is_bound, is_range, is_value_of}

-- the value is one of each kind that it has
abbrev pub IsMade : Value → Type 0
IsMade v = (kind : Kind) → has_kind kind v ≡ true → IsValueOf kind v

bound_is : (b : Option ℤ) → IfSome b (λ n. is_int8 n ≡ true) → is_bound b ≡ true
bound_is None is = refl
bound_is (Some n) is = is

range_is : (r : Range) → IsRange r → HasBounds r → is_range r ≡ true
range_is Empty room bounds = refl
range_is (Between lower upper) room bounds =
    and_from (leaves_room lower upper && is_bound lower) (is_bound upper) (and_from (leaves_room lower upper) (is_bound lower) room (bound_is lower bounds.0)) (bound_is upper bounds.1)

at_most : (a b : ℕ) → a < suc b → nat_le a b ≡ true
at_most a b below = grind (arith, below)

network_is : (n : Network) → IsNetwork n → ((n.family == 4) && nat_le n.prefix 32 && nat_lt n.address (2 ^ 32)) ≡ true
network_is n is =
    and_from ((n.family == 4) && nat_le n.prefix 32) (nat_lt n.address (2 ^ 32)) (and_from (n.family == 4) (nat_le n.prefix 32) (eq-eqb n.family 4 is.family) (at_most n.prefix 32 (omega (arith, is.prefix))))
    (lt-ltb n.address (2 ^ 32) is.address)

value_is : (kind : Kind) (v : Value) → IsMade v → has_kind kind v ≡ true → is_value_of kind v ≡ true
value_is kind Null made has = refl
value_is kinds.Int (Int n) made has = made kinds.Int refl
value_is kinds.Span (Span r) made has = let is : IsRange r × HasBounds r = made kinds.Span refl in range_is r is.0 is.1
value_is kinds.Net (Net n) made has = network_is n (made kinds.Net refl)
value_is kind v made has = absurd (false≢true has)

pub values_are : (kinds : List Kind) (values : List Value) → All IsMade values → have_kinds kinds values ≡ true → are_values kinds values ≡ true
values_are [] [] made have = refl
values_are [] (v ∷ values) made have = absurd (false≢true have)
values_are (kind ∷ kinds) [] made have = absurd (false≢true have)
values_are (kind ∷ kinds) (v ∷ values) made have =
    let both = and_parts (has_kind kind v) (have_kinds kinds values) have in
    and_from (is_value_of kind v) (are_values kinds values) (value_is kind v (All-head IsMade v values made) both.0) (values_are kinds values (All-tail IsMade v values made) both.1)
