-- Sums over the numbers below one.
use Rattle.std.proofs.Common.{◌≡◌, ⊎_elim, ℕ, ◌+◌, ◌≤◌, ◌<◌, sym, subst, arith, zero, suc}
use Rattle.std.specs.Prelude.{refl}
use Rattle.std.proofs.Math.Nat.{le_antisymm, le_refl}
use Rattle.coverage.proofs.Numbers.{lt_or_ge}
use Rattle.coverage.specs.StepsLeft.{sum_below}

pub sum_same : (f g : ℕ → ℕ) → ((i : ℕ) → g i ≡ f i) → (n : ℕ) → sum_below n g ≡ sum_below n f
sum_same f g same zero = refl
sum_same f g same (suc n) = λ j. sum_same f g same n j + same n j

pub sum_grows : (f : ℕ → ℕ) (m n : ℕ) → m ≤ n → sum_below m f ≤ sum_below n f
sum_grows f m zero le = subst (λ k. sum_below k f ≤ 0) (sym (none m le)) (le_refl 0)
  where
    none : (m : ℕ) → m ≤ zero → m ≡ 0
    none m le = omega arith
sum_grows f m (suc n) le = ⊎_elim
    (λ (less : m < suc n). omega (arith, sum_grows f m n (omega arith)))
    (λ (all : suc n ≤ m). subst (λ k. sum_below k f ≤ sum_below n f + f n) (le_antisymm all le) (le_refl (sum_below n f + f n)))
    (lt_or_ge m (suc n))
