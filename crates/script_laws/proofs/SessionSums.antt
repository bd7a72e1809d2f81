-- Sums over the sessions, of which one changes.
use Rattle.std.proofs.Common.{◌≡◌, ◌⊎◌, inl, inr, ℕ, zero, suc, ◌+◌, ◌≤◌, ◌<◌, refl, ap, arith}
use Rattle.std.proofs.lemmas.Bool.{cases_eq}

-- of the numbers at 0, 1 and so on, as many as are counted
pub sum_below : (ℕ → ℕ) → ℕ → ℕ
sum_below f zero = 0
sum_below f (suc count) = sum_below f count + f count

pub sum_nothing : (f : ℕ → ℕ) → ((n : ℕ) → f n ≡ 0) → (count : ℕ) → sum_below f count ≡ 0
unfolding sum_below
sum_nothing f none zero = refl
sum_nothing f none (suc count) = let rest = sum_nothing f none count in let here = none count in omega (arith, rest, here)

less_one : (n count : ℕ) → n < suc count → (count ≡ n → ⊥) → n < count
less_one n count low apart = by (cases_eq count n)
  where
    by : (count ≡ n) ⊎ (count ≡ n → ⊥) → n < count
    by (inl is) = absurd (apart is)
    by (inr other) = omega (arith, low, other)

module _ (f g : ℕ → ℕ) (n : ℕ) (others : (m : ℕ) → (m ≡ n) ⊎ (g m ≡ f m)) where
  same_at : (m : ℕ) → (m ≡ n → ⊥) → g m ≡ f m
  same_at m apart = by (others m)
    where
      by : (m ≡ n) ⊎ (g m ≡ f m) → g m ≡ f m
      by (inl is) = absurd (apart is)
      by (inr same) = same

  past : (m : ℕ) → suc m ≤ n → m ≡ n → ⊥
  past m low is = omega (arith, low, is)

  sum_apart : (count : ℕ) → count ≤ n → sum_below g count ≡ sum_below f count
  unfolding sum_below
  sum_apart zero low = refl
  sum_apart (suc count) low =
      let rest = sum_apart count (let less : count ≤ n = omega (arith, low) in less) in
      let here = same_at count (past count low) in
      omega (arith, rest, here)

  sum_at : (count : ℕ) → count ≡ n → sum_below g (suc count) + f n ≡ sum_below f (suc count) + g n
  unfolding sum_below
  sum_at count is =
      let rest = sum_apart count (let low : count ≤ n = omega (arith, is) in low) in
      let left : f count ≡ f n = ap f is in
      let right : g count ≡ g n = ap g is in
      omega (arith, rest, left, right)

  pub sum_changed : (count : ℕ) → n < count → sum_below g count + f n ≡ sum_below f count + g n
  unfolding sum_below
  sum_changed zero low = absurd (omega (arith, low))
  sum_changed (suc count) low = by (cases_eq count n) (sum_changed count)
    where
      by : (count ≡ n) ⊎ (count ≡ n → ⊥) → (n < count → sum_below g count + f n ≡ sum_below f count + g n) → sum_below g (suc count) + f n ≡ sum_below f (suc count) + g n
      by (inl is) before = sum_at count is
      by (inr apart) before =
          let rest = before (less_one n count low apart) in
          let here = same_at count apart in
          omega (arith, rest, here)
