-- values added one by one give their least and greatest, whatever the order
use Rattle.std.proofs.Common.{◌≡◌, ℤ, Bool, true, false, cond, List, [], ◌∷◌, ◌++◌, fold, All, Contains, refl, arith, append_assoc}
use Rattle.std.proofs.lemmas.List.{append-nil}
use Rattle.std.proofs.lemmas.List.Elements.{All-nil, All-cons, All-weaker, All-head, All-tail, All-contains, All-append, Contains-append_left, Contains-append_right}
use Rattle.std.proofs.lemmas.Int.{ints, clamps}
use Rattle.std.specs.Prelude.{int_lt}
use Rattle.std.specs.Int.{int_min, int_max}
use Rattle.block_model.specs.declared.value.Value.{Value}
use Rattle.block_model.specs.declared.value.Value.TheVariants.{Null, Int, Span, Net}
use Rattle.opclass_minmax.specs.Bounds.{Bounds, NothingYet, Between, with_value, united}
use Rattle.opclass_minmax.specs.Includes.{IsInt, IsWithin, Includes}
use Rattle.opclass_api.specs.SameValues.{HaveSameValues}
use Rattle.opclass_api.specs.ValueLists.{all_same, none_has, none_same}
use Rattle.opclass_minmax.specs.ExactSummary.{ExactSummary}

chosen_there : (xs : List Value) (b : Bool) (x y : ℤ) → Contains xs (Int x) → Contains xs (Int y) → Contains xs (Int (cond b x y))
chosen_there xs true x y first second = first
chosen_there xs false x y first second = second

-- wider bounds include what the narrower did
still_within : (l g low high : ℤ) (v : Value) → IsWithin l g v → IsWithin (int_min l low) (int_max g high) v
still_within l g low high (Int v) within = (omega (arith, ints, clamps), omega (arith, ints, clamps))
still_within l g low high Null within = absurd within
still_within l g low high (Span r) within = absurd within
still_within l g low high (Net a) within = absurd within

still_within_both : (l g low high : ℤ) (v : Value) → IsWithin low high v → IsWithin (int_min l low) (int_max g high) v
still_within_both l g low high (Int v) within = (omega (arith, ints, clamps), omega (arith, ints, clamps))
still_within_both l g low high Null within = absurd within
still_within_both l g low high (Span r) within = absurd within
still_within_both l g low high (Net a) within = absurd within

-- the union is exact for both lists
pub exact_of_both : (first second : List Value) (s t : Bounds) → ExactSummary first s → ExactSummary second t → ExactSummary (first ++ second) (united s t)
exact_of_both first second NothingYet NothingYet none also = rw (none, also) refl
exact_of_both first second (Between l g) NothingYet exact none = rw (none, append-nil) exact
exact_of_both first second NothingYet (Between low high) none exact = rw none exact
exact_of_both first second (Between l g) (Between low high) exact also =
    let both = first ++ second in
    let least = int_min l low in
    let greatest = int_max g high in
    record {
      has_least = chosen_there both (int_lt low l) low l (Contains-append_right first second (Int low) also.has_least) (Contains-append_left first second (Int l) exact.has_least);
      has_greatest = chosen_there both (int_lt high g) g high (Contains-append_left first second (Int g) exact.has_greatest) (Contains-append_right first second (Int high) also.has_greatest);
      none_beyond =
          All-append (IsWithin least greatest) first second
          (All-weaker (IsWithin l g) (IsWithin least greatest) (still_within l g low high) first exact.none_beyond)
          (All-weaker (IsWithin low high) (IsWithin least greatest) (still_within_both l g low high) second also.none_beyond);
    }

-- one value is its own least and greatest
exact_of_one : (n : ℤ) → ExactSummary (Int n ∷ []) (Between n n)
exact_of_one n = record {
  has_least = (0, omega arith, refl);
  has_greatest = (0, omega arith, refl);
  none_beyond = All-cons (IsWithin n n) (Int n) [] (omega (arith, ints), omega (arith, ints)) (All-nil (IsWithin n n));
}

one_more : (xs : List Value) (s : Bounds) (v : Value) → IsInt v → ExactSummary xs s → ExactSummary (xs ++ v ∷ []) (with_value s v)
one_more xs s (Int n) int exact = exact_of_both xs (Int n ∷ []) s (Between n n) exact (exact_of_one n)
one_more xs s Null int exact = absurd int
one_more xs s (Span r) int exact = absurd int
one_more xs s (Net a) int exact = absurd int

-- values added behind those that were seen
added : (seen rest : List Value) (s : Bounds) → All IsInt rest → ExactSummary seen s → ExactSummary (seen ++ rest) (fold with_value s rest)
added seen [] s all exact = rw append-nil exact
added seen (v ∷ rest) s all exact =
    rw (← append_assoc seen (v ∷ []) rest) (added (seen ++ v ∷ []) rest (with_value s v) (All-tail IsInt v rest all) (one_more seen s v (All-head IsInt v rest all) exact))

pub exact_in_order : (values : List Value) → All IsInt values → ExactSummary values (fold with_value NothingYet values)
exact_in_order values all = added [] values NothingYet all refl

-- an exact summary includes each value
pub exact_includes : (values : List Value) (s : Bounds) → ExactSummary values s → All (Includes s) values
exact_includes values NothingYet none = rw none (All-nil (Includes NothingYet))
exact_includes values (Between l g) exact = exact.none_beyond

-- a list has one exact summary
pub one_exact : (values : List Value) (s t : Bounds) → ExactSummary values s → ExactSummary values t → t ≡ s
one_exact values NothingYet NothingYet first second = refl
one_exact values NothingYet (Between l g) first second = absurd (none_has values (Int l) first second.has_least)
one_exact values (Between l g) NothingYet first second = absurd (none_has values (Int l) second first.has_least)
one_exact values (Between l g) (Between low high) first second =
    let lows = All-contains (IsWithin low high) values (Int l) second.none_beyond first.has_least in
    let least = All-contains (IsWithin l g) values (Int low) first.none_beyond second.has_least in
    let highs = All-contains (IsWithin low high) values (Int g) second.none_beyond first.has_greatest in
    let greatest = All-contains (IsWithin l g) values (Int high) first.none_beyond second.has_greatest in
    let same_low : low ≡ l = omega (arith, ints, lows.0, least.0) in
    let same_high : high ≡ g = omega (arith, ints, highs.1, greatest.1) in
    rw (same_low, same_high) refl

-- the exact summary of the same values
exact_same : (values others : List Value) (s : Bounds) → HaveSameValues values others → ExactSummary values s → ExactSummary others s
exact_same values others NothingYet same exact = none_same values others same exact
exact_same values others (Between l g) same exact = record {
  has_least = same.all_there (Int l) exact.has_least;
  has_greatest = same.all_there (Int g) exact.has_greatest;
  none_beyond = all_same (IsWithin l g) values others same exact.none_beyond;
}

-- whatever the order
pub exact_in_any_order : (values others : List Value) → All IsInt values → HaveSameValues values others → fold with_value NothingYet others ≡ fold with_value NothingYet values
exact_in_any_order values others all same =
    one_exact others (fold with_value NothingYet values) (fold with_value NothingYet others) (exact_same values others (fold with_value NothingYet values) same (exact_in_order values all)) (exact_in_order others (all_same IsInt values others same all))
