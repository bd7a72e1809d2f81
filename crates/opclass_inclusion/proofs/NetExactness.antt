-- addresses added one by one give the smallest network that each is in, whatever the order
use Rattle.std.proofs.Common.{◌≡◌, suc, Bool, true, false, List, [], ◌∷◌, ◌++◌, fold, All, Contains, refl, sym, arith, append_assoc, ◌∙◌}
use Rattle.std.specs.Prelude.{◌==◌, if◌then◌else◌}
use Rattle.std.proofs.lemmas.List.{append-nil}
use Rattle.std.proofs.lemmas.List.Elements.{All-nil, All-cons, All-weaker, All-head, All-tail, All-contains, All-append, Contains-append_left, Contains-append_right}
use Rattle.block_model.specs.declared.value.Value.{Value}
use Rattle.block_model.specs.declared.value.Value.TheVariants.{Null, Int, Span, Net}
use Rattle.block_model.specs.Networks.{Network, IsNetwork}
use Rattle.opclass_api.specs.SameValues.{HaveSameValues}
use Rattle.opclass_inclusion.specs.NetExact.{ExactSummary, HaveTwoFamilies, IsAddress, IsSmallestNetwork}
use Rattle.opclass_inclusion.specs.NetHulls.{IsSummary, common_prefix, merged, network_with, of_network, united, with_value}
use Rattle.opclass_inclusion.specs.NetIncludes.{IsIn}
use Rattle.opclass_inclusion.specs.declared.net_summary.NetSummary.{NetSummary}
use Rattle.opclass_inclusion.specs.declared.net_summary.NetSummary.TheVariants.{NothingYet, Unmergeable, Hull}
use Rattle.opclass_inclusion.proofs.NetBits.{also_within_merged, equal, merged_within, network_within, no_host_with, not_equal, one_network, parts, within_further, within_its_network, within_merged}
use Rattle.opclass_inclusion.proofs.NetHullLaws.{hull_with, in_wider, none_agree, union_lawful}
use Rattle.opclass_api.specs.ValueLists.{all_back, all_same, none_has, none_same}
use Rattle.opclass_inclusion.proofs.ValueLists.{all_first, all_second}

-- ---- two families

more_first : (first second : List Value) → HaveTwoFamilies first → HaveTwoFamilies (first ++ second)
more_first first second two = record {
  one = two.one;
  other = two.other;
  has_one = Contains-append_left first second (Net two.one) two.has_one;
  has_other = Contains-append_left first second (Net two.other) two.has_other;
  apart = two.apart;
}

more_second : (first second : List Value) → HaveTwoFamilies second → HaveTwoFamilies (first ++ second)
more_second first second two = record {
  one = two.one;
  other = two.other;
  has_one = Contains-append_right first second (Net two.one) two.has_one;
  has_other = Contains-append_right first second (Net two.other) two.has_other;
  apart = two.apart;
}

-- an address of the family of the network
record OneOf (values : List Value) (u : Network) : Type 0 where
  value : Network
  there : Contains values (Net value)
  family : value.family ≡ u.family

head_of : (v : Value) (rest : List Value) (u : Network) → IsIn u v → OneOf (v ∷ rest) u
head_of (Net n) rest u within = record { value = n; there = (0, omega arith, refl); family = (parts n u within).family }
head_of Null rest u within = absurd within
head_of (Int n) rest u within = absurd within
head_of (Span r) rest u within = absurd within

-- the smallest network is of some address
some_in : (values : List Value) (u : Network) → IsSmallestNetwork values u → OneOf values u
some_in [] u exact =
    let stranger : Network = record { family = suc u.family; prefix = 0; address = 0 } in
    absurd (omega (arith, (parts u stranger (exact.smallest stranger (All-nil (IsIn stranger)))).family))
some_in (v ∷ rest) u exact = head_of v rest u (All-head (IsIn u) v rest exact.holds_each)

-- ---- both lists

joined_exact : (first second : List Value) (a b : Network) (t : Bool) → (a.family == b.family) ≡ t → IsNetwork a → IsNetwork b → IsSmallestNetwork first a → IsSmallestNetwork second b → ExactSummary (first ++ second) (if t then Hull (merged a b) else Unmergeable)
joined_exact first second a b true e one two exact also =
    let both = merged a b in
    let none = none_agree a b one two in
    record {
      no_host = no_host_with a (common_prefix a b);
      holds_each =
          All-append (IsIn both) first second
          (All-weaker (IsIn a) (IsIn both) (λ v. in_wider a both v (λ k h. within_further k a both h (within_merged a b none))) first exact.holds_each)
          (All-weaker (IsIn b) (IsIn both) (λ v. in_wider b both v (λ k h. within_further k b both h (also_within_merged a b (equal a.family b.family e) none))) second also.holds_each);
      smallest = λ n all. merged_within a b n (exact.smallest n (all_first (IsIn n) first second all)) (also.smallest n (all_second (IsIn n) first second all));
    }
joined_exact first second a b false e one two exact also =
    let there = some_in first a exact in
    let here = some_in second b also in
    record {
      one = there.value;
      other = here.value;
      has_one = Contains-append_left first second (Net there.value) there.there;
      has_other = Contains-append_right first second (Net here.value) here.there;
      apart = λ same. not_equal a.family b.family e (sym there.family ∙ same ∙ here.family);
    }

-- the union is exact for both lists
pub exact_of_both : (first second : List Value) (s t : NetSummary) → IsSummary s → IsSummary t → ExactSummary first s → ExactSummary second t → ExactSummary (first ++ second) (united s t)
exact_of_both first second s NothingYet one two exact none = rw (none, append-nil) exact
exact_of_both first second NothingYet Unmergeable one two none also = more_second first second also
exact_of_both first second Unmergeable Unmergeable one two exact also = more_first first second exact
exact_of_both first second (Hull a) Unmergeable one two exact also = more_second first second also
exact_of_both first second NothingYet (Hull b) one two none also = rw none also
exact_of_both first second Unmergeable (Hull b) one two exact also = more_first first second exact
exact_of_both first second (Hull a) (Hull b) one two exact also = joined_exact first second a b (a.family == b.family) refl one.is_network two.is_network exact also

-- the network of one address
exact_of_one : (n : Network) → ExactSummary (Net n ∷ []) (of_network n)
exact_of_one n = record {
  no_host = no_host_with n n.prefix;
  holds_each = All-cons (IsIn (network_with n n.prefix)) (Net n) [] (within_its_network n n.prefix (omega arith)) (All-nil (IsIn (network_with n n.prefix)));
  smallest = λ m all. let within = All-head (IsIn m) (Net n) [] all in network_within n m n.prefix within (parts n m within).longer;
}

one_lawful : (s : NetSummary) (v : Value) → IsAddress v → IsSummary s → IsSummary (with_value s v)
one_lawful s (Net n) is lawful = union_lawful s (of_network n) lawful (hull_with n n.prefix is (omega arith))
one_lawful s Null is lawful = absurd is
one_lawful s (Int n) is lawful = absurd is
one_lawful s (Span r) is lawful = absurd is

one_more : (xs : List Value) (s : NetSummary) (v : Value) → IsAddress v → IsSummary s → ExactSummary xs s → ExactSummary (xs ++ v ∷ []) (with_value s v)
one_more xs s (Net n) is lawful exact = exact_of_both xs (Net n ∷ []) s (of_network n) lawful (hull_with n n.prefix is (omega arith)) exact (exact_of_one n)
one_more xs s Null is lawful exact = absurd is
one_more xs s (Int n) is lawful exact = absurd is
one_more xs s (Span r) is lawful exact = absurd is

-- values added behind those that were seen
added : (seen rest : List Value) (s : NetSummary) → All IsAddress rest → IsSummary s → ExactSummary seen s → ExactSummary (seen ++ rest) (fold with_value s rest)
added seen [] s all lawful exact = rw append-nil exact
added seen (v ∷ rest) s all lawful exact =
    let is = All-head IsAddress v rest all in
    rw (← append_assoc seen (v ∷ []) rest) (added (seen ++ v ∷ []) rest (with_value s v) (All-tail IsAddress v rest all) (one_lawful s v is lawful) (one_more seen s v is lawful exact))

pub exact_in_order : (values : List Value) → All IsAddress values → ExactSummary values (fold with_value NothingYet values)
exact_in_order values all = added [] values NothingYet all tt refl

-- ---- a list has one exact summary

no_two : (values : List Value) (u : Network) → All (IsIn u) values → HaveTwoFamilies values → ⊥
no_two values u all two =
    let one = parts two.one u (All-contains (IsIn u) values (Net two.one) all two.has_one) in
    let other = parts two.other u (All-contains (IsIn u) values (Net two.other) all two.has_other) in
    two.apart (one.family ∙ sym other.family)

pub one_exact : (values : List Value) (s t : NetSummary) → ExactSummary values s → ExactSummary values t → t ≡ s
one_exact values NothingYet NothingYet first second = refl
one_exact values NothingYet Unmergeable first second = absurd (none_has values (Net second.one) first second.has_one)
one_exact values NothingYet (Hull b) first second = let some = some_in values b second in absurd (none_has values (Net some.value) first some.there)
one_exact values Unmergeable NothingYet first second = absurd (none_has values (Net first.one) second first.has_one)
one_exact values Unmergeable Unmergeable first second = refl
one_exact values Unmergeable (Hull b) first second = absurd (no_two values b second.holds_each first)
one_exact values (Hull a) NothingYet first second = let some = some_in values a first in absurd (none_has values (Net some.value) second some.there)
one_exact values (Hull a) Unmergeable first second = absurd (no_two values a first.holds_each second)
one_exact values (Hull a) (Hull b) first second =
    let same = one_network b a second.no_host first.no_host (second.smallest a first.holds_each) (first.smallest b second.holds_each) in
    λ i. Hull (same i)

-- the exact summary of the same values
exact_same : (values others : List Value) (s : NetSummary) → HaveSameValues values others → ExactSummary values s → ExactSummary others s
exact_same values others NothingYet same exact = none_same values others same exact
exact_same values others Unmergeable same exact = record {
  one = exact.one;
  other = exact.other;
  has_one = same.all_there (Net exact.one) exact.has_one;
  has_other = same.all_there (Net exact.other) exact.has_other;
  apart = exact.apart;
}
exact_same values others (Hull u) same exact = record {
  no_host = exact.no_host;
  holds_each = all_same (IsIn u) values others same exact.holds_each;
  smallest = λ n all. exact.smallest n (all_back (IsIn n) values others same all);
}

-- whatever the order
pub exact_in_any_order : (values others : List Value) → All IsAddress values → HaveSameValues values others → fold with_value NothingYet others ≡ fold with_value NothingYet values
exact_in_any_order values others all same =
    one_exact others (fold with_value NothingYet values) (fold with_value NothingYet others) (exact_same values others (fold with_value NothingYet values) same (exact_in_order values all)) (exact_in_order others (all_same IsAddress values others same all))
