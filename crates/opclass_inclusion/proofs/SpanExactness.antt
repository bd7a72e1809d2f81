-- ranges added one by one give the smallest range that contains each, whatever the order
use Rattle.std.proofs.Common.{◌≡◌, ℤ, Bool, true, ◌||◌, Option, None, Some, List, [], ◌∷◌, ◌++◌, fold, All, Contains as Has, refl, ap, inl, inr, arith, append_assoc}
use Rattle.std.specs.Cmp.{both_ways}
use Rattle.std.specs.Prelude.{◌↔◌}
use Rattle.std.proofs.lemmas.List.{append-nil}
use Rattle.std.proofs.lemmas.List.Elements.{All-nil, All-cons, All-weaker, All-head, All-tail, All-contains, All-append, Contains-append_left, Contains-append_right, Contains-append_cases}
use Rattle.std.proofs.lemmas.Bool.{false≢true, and_parts, or_cases, or_left, or_right}
use Rattle.std.proofs.lemmas.Int.{ints}
use Rattle.block_model.specs.declared.value.Value.{Value}
use Rattle.block_model.specs.declared.value.Value.TheVariants.{Null, Int, Span, Net}
use Rattle.block_model.specs.Ranges.{Range, Empty, Between, starts_first, ends_last}
use Rattle.opclass_api.specs.SameValues.{HaveSameValues}
use Rattle.opclass_inclusion.specs.SpanExact.{ExactSummary, HoldsRange, HoldsValue}
use Rattle.opclass_inclusion.specs.SpanHulls.{hull_of, is_empty, no_range, of_range, united, with_value}
use Rattle.opclass_inclusion.specs.SpanIncludes.{IsSpan}
use Rattle.opclass_inclusion.specs.declared.span_summary.SpanSummary.{SpanSummary}
use Rattle.opclass_api.specs.ValueLists.{all_back, all_same, empty_lacks}
use Rattle.opclass_inclusion.proofs.ValueLists.{all_first, all_second}
use Rattle.opclass_inclusion.proofs.SpanHullLaws.{holds_further, holds_itself, hull_holds_first, hull_holds_second, hull_is_smallest}

-- a range that contains another contains each value that the other does
value_further : (r u : Range) (v : Value) → HoldsRange r u → HoldsValue u v → HoldsValue r v
value_further r u (Span k) more holds = holds_further r u k more holds
value_further r u Null more holds = holds
value_further r u (Int n) more holds = holds
value_further r u (Net n) more holds = holds

flag_of_both : (first second : List Value) (e f : Bool) → (e ≡ true) ↔ Has first (Span Empty) → (f ≡ true) ↔ Has second (Span Empty) → ((e || f) ≡ true) ↔ Has (first ++ second) (Span Empty)
flag_of_both first second e f one two = (
  λ some. elim (or_cases e f some) [
    | inl there ↦ Contains-append_left first second (Span Empty) (one.0 there)
    | inr there ↦ Contains-append_right first second (Span Empty) (two.0 there)
  ],
  λ some. elim (Contains-append_cases first second (Span Empty) some) [
    | inl there ↦ or_left e f (one.1 there)
    | inr there ↦ or_right e f (two.1 there)
  ],
)

-- the union is exact for both lists
pub exact_of_both : (first second : List Value) (s t : SpanSummary) → ExactSummary first s → ExactSummary second t → ExactSummary (first ++ second) (united s t)
exact_of_both first second s t exact also =
    let hull = hull_of s.hull t.hull in
    record {
      flag = flag_of_both first second s.empty_added t.empty_added exact.flag also.flag;
      hull = record {
        holds_each =
            All-append (HoldsValue hull) first second
            (All-weaker (HoldsValue s.hull) (HoldsValue hull) (λ v. value_further hull s.hull v (hull_holds_first s.hull t.hull)) first exact.hull.holds_each)
            (All-weaker (HoldsValue t.hull) (HoldsValue hull) (λ v. value_further hull t.hull v (hull_holds_second s.hull t.hull)) second also.hull.holds_each);
        smallest = λ r all. hull_is_smallest r s.hull t.hull (exact.hull.smallest r (all_first (HoldsValue r) first second all)) (also.hull.smallest r (all_second (HoldsValue r) first second all));
      };
    }

-- one range is its own hull
IsNotEmpty : Value → Type 0
IsNotEmpty (Span Empty) = ⊥
IsNotEmpty v = Unit {0}

flag_of_one : (r : Range) → (is_empty r ≡ true) ↔ Has (Span r ∷ []) (Span Empty)
unfolding IsNotEmpty
flag_of_one Empty = (λ e. (0, omega arith, refl), λ there. refl)
flag_of_one (Between a b) = (λ e. absurd (false≢true e), λ there. absurd (All-contains IsNotEmpty (Span (Between a b) ∷ []) (Span Empty) (All-cons IsNotEmpty (Span (Between a b)) [] tt (All-nil IsNotEmpty)) there))

exact_of_one : (r : Range) → ExactSummary (Span r ∷ []) (of_range r)
exact_of_one r = record {
  flag = flag_of_one r;
  hull = record {
    holds_each = All-cons (HoldsValue r) (Span r) [] (holds_itself r) (All-nil (HoldsValue r));
    smallest = λ k all. All-head (HoldsValue k) (Span r) [] all;
  };
}

exact_of_none : ExactSummary [] no_range
exact_of_none = record {
  flag = (λ e. absurd (false≢true e), λ there. absurd (empty_lacks (Span Empty) there));
  hull = record { holds_each = All-nil (HoldsValue Empty); smallest = λ r all. holds_none r };
}
  where
    holds_none : (r : Range) → HoldsRange r Empty
    holds_none Empty = refl
    holds_none (Between a b) = refl

one_more : (xs : List Value) (s : SpanSummary) (v : Value) → IsSpan v → ExactSummary xs s → ExactSummary (xs ++ v ∷ []) (with_value s v)
one_more xs s (Span r) span exact = exact_of_both xs (Span r ∷ []) s (of_range r) exact (exact_of_one r)
one_more xs s Null span exact = absurd span
one_more xs s (Int n) span exact = absurd span
one_more xs s (Net n) span exact = absurd span

-- values added behind those that were seen
added : (seen rest : List Value) (s : SpanSummary) → All IsSpan rest → ExactSummary seen s → ExactSummary (seen ++ rest) (fold with_value s rest)
added seen [] s all exact = rw append-nil exact
added seen (v ∷ rest) s all exact =
    rw (← append_assoc seen (v ∷ []) rest) (added (seen ++ v ∷ []) rest (with_value s v) (All-tail IsSpan v rest all) (one_more seen s v (All-head IsSpan v rest all) exact))

pub exact_in_order : (values : List Value) → All IsSpan values → ExactSummary values (fold with_value no_range values)
exact_in_order values all = added [] values no_range all exact_of_none

-- ranges that contain each other are one
one_lower : (a b : Option ℤ) → starts_first a b ≡ true → starts_first b a ≡ true → a ≡ b
one_lower None None s t = refl
one_lower None (Some b) s t = absurd (false≢true t)
one_lower (Some a) None s t = absurd (false≢true s)
one_lower (Some a) (Some b) s t = let e : a ≡ b = grind (arith, ints) in ap Some e

one_upper : (a b : Option ℤ) → ends_last a b ≡ true → ends_last b a ≡ true → a ≡ b
one_upper None None s t = refl
one_upper None (Some b) s t = absurd (false≢true t)
one_upper (Some a) None s t = absurd (false≢true s)
one_upper (Some a) (Some b) s t = let e : a ≡ b = grind (arith, ints) in ap Some e

one_range : (u k : Range) → HoldsRange u k → HoldsRange k u → u ≡ k
one_range Empty Empty s t = refl
one_range Empty (Between c d) s t = absurd (false≢true s)
one_range (Between a b) Empty s t = absurd (false≢true t)
one_range (Between a b) (Between c d) s t =
    let p : (starts_first a c ≡ true) × (ends_last b d ≡ true) = and_parts _ _ s in
    let q : (starts_first c a ≡ true) × (ends_last d b ≡ true) = and_parts _ _ t in
    λ i. Between (one_lower a c p.0 q.0 i) (one_upper b d p.1 q.1 i)

-- a list has one exact summary
pub one_exact : (values : List Value) (s t : SpanSummary) → ExactSummary values s → ExactSummary values t → t ≡ s
one_exact values s t first second =
    let flag = both_ways t.empty_added s.empty_added (λ e. first.flag.1 (second.flag.0 e)) (λ e. second.flag.1 (first.flag.0 e)) in
    let hull = one_range t.hull s.hull (first.hull.smallest t.hull second.hull.holds_each) (second.hull.smallest s.hull first.hull.holds_each) in
    λ i. record { empty_added = flag i; hull = hull i }

-- the exact summary of the same values
exact_same : (values others : List Value) (s : SpanSummary) → HaveSameValues values others → ExactSummary values s → ExactSummary others s
exact_same values others s same exact = record {
  flag = (λ e. same.all_there (Span Empty) (exact.flag.0 e), λ there. exact.flag.1 (same.no_more (Span Empty) there));
  hull = record {
    holds_each = all_same (HoldsValue s.hull) values others same exact.hull.holds_each;
    smallest = λ r all. exact.hull.smallest r (all_back (HoldsValue r) values others same all);
  };
}

-- whatever the order
pub exact_in_any_order : (values others : List Value) → All IsSpan values → HaveSameValues values others → fold with_value no_range others ≡ fold with_value no_range values
exact_in_any_order values others all same =
    one_exact others (fold with_value no_range values) (fold with_value no_range others) (exact_same values others (fold with_value no_range values) same (exact_in_order values all)) (exact_in_order others (all_same IsSpan values others same all))
