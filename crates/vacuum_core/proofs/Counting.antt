-- how many numbers are so
use Rattle.std.proofs.Common.{◌≡◌, inl, inr, ℕ, zero, suc, ◌+◌, ◌≤◌, ◌<◌, List, [], ◌∷◌, length, refl, sym, subst, arith}
use Rattle.coverage.specs.Counts.{IsCountBelow, IsCountOf, NoneBelow, NotThisOne, OneMoreBelow}
use Rattle.heap_rows.specs.DroppedRows.{AreAscending}
use Rattle.vacuum_core.proofs.Picking.{IsAmong}

-- as many are so by other words
pub counts_below_alike : (P Q : ℕ → Type 0) (below count : ℕ) → ((n : ℕ) → P n → Q n) → ((n : ℕ) → Q n → P n) → IsCountBelow P below count → IsCountBelow Q below count
counts_below_alike P Q _ _ to from NoneBelow = NoneBelow
counts_below_alike P Q _ _ to from (OneMoreBelow n count is rest) = OneMoreBelow n count (to n is) (counts_below_alike P Q n count to from rest)
counts_below_alike P Q _ _ to from (NotThisOne n count not rest) = NotThisOne n count (λ is. not (from n is)) (counts_below_alike P Q n count to from rest)

pub counts_alike : (P Q : ℕ → Type 0) (count : ℕ) → ((n : ℕ) → P n → Q n) → ((n : ℕ) → Q n → P n) → IsCountOf P count → IsCountOf Q count
counts_alike P Q count to from counted = record {
  below = counted.below;
  counted = counts_below_alike P Q counted.below count to from counted.counted;
  rest = λ n past is. counted.rest n past (from n is);
}

-- no more of the next numbers are so
skips : (P : ℕ → Type 0) (n count more : ℕ) → ((m : ℕ) → n ≤ m → m < n + more → P m → ⊥) → IsCountBelow P n count → IsCountBelow P (n + more) count
skips P n count zero none counted = let e : n ≡ n + 0 = omega arith in subst (λ (m : ℕ). IsCountBelow P m count) e counted
skips P n count (suc more) none counted =
    let e : suc (n + more) ≡ n + suc more = omega arith in
    subst (λ (m : ℕ). IsCountBelow P m count) e
    (NotThisOne (n + more) count (none (n + more) (omega arith) (omega arith)) (skips P n count more (λ m low high. none m low (omega (arith, high))) counted))

-- ascending numbers are among themselves
pub above_least : (least count n : ℕ) (slots : List ℕ) → AreAscending least count slots → IsAmong slots n → (least ≤ n) × (n < count)
above_least least count n [] ascend among = absurd among
above_least least count n (slot ∷ slots) ascend among = elim among [
  | inl is ↦ (omega (arith, is, ascend.0), omega (arith, is, ascend.1))
  | inr later ↦ let at = above_least (slot + 1) count n slots ascend.2 later in (omega (arith, at.0, ascend.0), at.1)
]

ascending_from : (least count before : ℕ) (P : ℕ → Type 0) (slots : List ℕ) → least ≤ count → AreAscending least count slots → ((n : ℕ) → least ≤ n → P n → IsAmong slots n) → ((n : ℕ) → IsAmong slots n → P n) → IsCountBelow P least before
    → IsCountBelow P count (before + length slots)
ascending_from least count before P [] low ascend only all counted =
    let gap : (more : ℕ) × (count ≡ least + more) = gap_of least count low in
    let e : before ≡ before + 0 = omega arith in
    subst (λ (c : ℕ). IsCountBelow P count c) e
    (subst (λ (m : ℕ). IsCountBelow P m before) (sym gap.1) (skips P least before gap.0 (λ m from below is. only m from is) counted))
  where
    gap_of : (a b : ℕ) → a ≤ b → (more : ℕ) × (b ≡ a + more)
    gap_of zero b low = (b, omega arith)
    gap_of (suc a) zero low = absurd (omega (arith, low))
    gap_of (suc a) (suc b) low = let rest = gap_of a b (omega (arith, low)) in (rest.0, (let e = rest.1 in omega (arith, e)))
ascending_from least count before P (slot ∷ slots) low ascend only all counted =
    let gap : (more : ℕ) × (slot ≡ least + more) = gap_of least slot ascend.0 in
    let to_slot : IsCountBelow P slot before = subst (λ (m : ℕ). IsCountBelow P m before) (sym gap.1) (skips P least before gap.0 (λ m from below is. elim (only m from is) [
      | inl same ↦ absurd (omega (arith, same, below, gap.1))
      | inr later ↦ let at = above_least (slot + 1) count m slots ascend.2 later in absurd (omega (arith, at.0, below, gap.1))
    ]) counted) in
    let e : slot + 1 ≡ suc slot = omega arith in
    let f : suc before + length slots ≡ before + suc (length slots) = omega arith in
    subst (λ (c : ℕ). IsCountBelow P count c) f
    (ascending_from (slot + 1) count (suc before) P slots (omega (arith, ascend.1)) ascend.2
    (λ n from is. elim (only n (omega (arith, from, ascend.0)) is) [
      | inl same ↦ absurd (omega (arith, same, from))
      | inr later ↦ later
    ])
    (λ n later. all n (inr later))
    (subst (λ (m : ℕ). IsCountBelow P m (suc before)) (sym e) (OneMoreBelow slot before (all slot (inl refl)) to_slot)))
  where
    gap_of : (a b : ℕ) → a ≤ b → (more : ℕ) × (b ≡ a + more)
    gap_of zero b low = (b, omega arith)
    gap_of (suc a) zero low = absurd (omega (arith, low))
    gap_of (suc a) (suc b) low = let rest = gap_of a b (omega (arith, low)) in (rest.0, (let e = rest.1 in omega (arith, e)))

-- as many numbers are so as the ascending ones that are
pub counts_ascending : (count : ℕ) (P : ℕ → Type 0) (slots : List ℕ) → AreAscending 0 count slots → ((n : ℕ) → P n → IsAmong slots n) → ((n : ℕ) → IsAmong slots n → P n) → IsCountOf P (length slots)
counts_ascending count P slots ascend only all = record {
  below = count;
  counted = let e : 0 + length slots ≡ length slots = omega arith in subst (λ (c : ℕ). IsCountBelow P count c) e (ascending_from 0 count 0 P slots (omega arith) ascend (λ n from is. only n is) all NoneBelow);
  rest = λ n past is. let at = above_least 0 count n slots ascend (only n is) in absurd (omega (arith, past, at.1));
}
