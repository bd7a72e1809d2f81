-- operators and their converses
use Rattle.std.specs.Prelude.{◌≡◌, ℕ, ℤ, Bool, true, false, ◌&&◌, ◌==◌, Option, None, Some, refl}
use Rattle.std.specs.Ordering.{int_eq}
use Rattle.std.proofs.Common.{arith, sym, ◌∙◌}
use Rattle.std.proofs.Math.Bool.{and_comm, or_comm}
use Rattle.std.proofs.lemmas.Bool.{false≢true}
use Rattle.std.proofs.lemmas.Int.{ints}
use Rattle.block_model.specs.declared.value.Value.{Value}
use Rattle.block_model.specs.declared.value.Value.TheVariants.{Null, Int, Span, Net}
use Rattle.block_model.specs.declared.value.Op.{Op}
use Rattle.block_model.specs.declared.value.Op.TheVariants.{Lt, Le, Eq, Ge, Gt, Overlaps, Contains, Within, Before, After, WithinEq, ContainsEq, Adjacent, IsNull, NotNull}
use Rattle.block_model.specs.Matches.{matches, kind_matches, number_matches, range_matches, network_matches, is_within}
use Rattle.block_model.specs.Networks.{Network}
use Rattle.block_model.specs.Ranges.{Range, Empty, Between, leaves_room, same_bound, touches}
use Rattle.model_laws.specs.ConverseOperators.{AreConverse, ConverseOperators}

int_eq_turned : (a b : ℤ) → int_eq a b ≡ int_eq b a
int_eq_turned a b = grind (arith, ints)

nat_eq_turned : (a b : ℕ) → (a == b) ≡ (b == a)
nat_eq_turned a b = grind arith

same_turned : (a b : Option ℤ) → same_bound a b ≡ same_bound b a
same_turned None None = refl
same_turned None (Some b) = refl
same_turned (Some a) None = refl
same_turned (Some a) (Some b) = int_eq_turned a b

-- an operator that is no null test compares values of one kind
abbrev pub is_comparison : Op → Bool
is_comparison IsNull = false
is_comparison NotNull = false
is_comparison op = true

pub compares : (op : Op) → is_comparison op ≡ true → (v k : Value) → matches v op k ≡ kind_matches v op k
compares IsNull h v k = absurd (false≢true h)
compares NotNull h v k = absurd (false≢true h)
compares op h Null k = refl
compares op h (Int v) k = refl
compares op h (Span v) k = refl
compares op h (Net v) k = refl

-- operators that agree on numbers, on ranges by their bounds, and on networks
module _ (op back : Op) (is : is_comparison op ≡ true) (is_too : is_comparison back ≡ true)
    (numbers : (v k : ℤ) → number_matches v op k ≡ number_matches k back v)
    (empties : range_matches Empty op Empty ≡ range_matches Empty back Empty)
    (first_empty : (c d : Option ℤ) → range_matches Empty op (Between c d) ≡ range_matches (Between c d) back Empty)
    (second_empty : (a b : Option ℤ) → range_matches (Between a b) op Empty ≡ range_matches Empty back (Between a b))
    (bounds : (a b c d : Option ℤ) → range_matches (Between a b) op (Between c d) ≡ range_matches (Between c d) back (Between a b))
    (networks : (v k : Network) → network_matches v op k ≡ network_matches k back v) where
  ranges : (v k : Range) → range_matches v op k ≡ range_matches k back v
  ranges Empty Empty = empties
  ranges Empty (Between c d) = first_empty c d
  ranges (Between a b) Empty = second_empty a b
  ranges (Between a b) (Between c d) = bounds a b c d

  kinds : (v k : Value) → kind_matches v op k ≡ kind_matches k back v
  kinds (Int v) (Int k) = numbers v k
  kinds (Span v) (Span k) = ranges v k
  kinds (Net v) (Net k) = networks v k
  kinds Null Null = refl
  kinds Null (Int k) = refl
  kinds Null (Span k) = refl
  kinds Null (Net k) = refl
  kinds v k = refl

  by_kinds : AreConverse op back
  by_kinds v k = compares op is v k ∙ kinds v k ∙ sym (compares back is_too k v)

pub converse_operators : ConverseOperators
converse_operators = record {
  less = by_kinds Lt Gt refl refl (λ v k. refl) refl (λ c d. refl) (λ a b. refl) (λ a b c d. refl) (λ v k. refl);
  at_most = by_kinds Le Ge refl refl (λ v k. refl) refl (λ c d. refl) (λ a b. refl) (λ a b c d. refl) (λ v k. refl);
  contains = by_kinds Contains Within refl refl (λ v k. refl) refl (λ c d. refl) (λ a b. refl) (λ a b c d. refl) (λ v k. refl);
  before = by_kinds Before After refl refl (λ v k. refl) refl (λ c d. refl) (λ a b. refl) (λ a b c d. refl) (λ v k. refl);
  within = by_kinds WithinEq ContainsEq refl refl (λ v k. refl) refl (λ c d. refl) (λ a b. refl) (λ a b c d. refl) (λ v k. refl);
  equal = by_kinds Eq Eq refl refl int_eq_turned refl (λ c d. refl) (λ a b. refl) (λ a b c d i. same_turned a c i && same_turned b d i) (λ v k i. nat_eq_turned v.family k.family i && nat_eq_turned v.prefix k.prefix i && nat_eq_turned v.address k.address i);
  overlaps = by_kinds Overlaps Overlaps refl refl (λ v k. refl) refl (λ c d. refl) (λ a b. refl) (λ a b c d. and_comm (leaves_room a d) (leaves_room c b)) (λ v k. or_comm (is_within v k) (is_within k v));
  adjacent = by_kinds Adjacent Adjacent refl refl (λ v k. refl) refl (λ c d. refl) (λ a b. refl) (λ a b c d. or_comm (touches b c) (touches d a)) (λ v k. refl);
}
