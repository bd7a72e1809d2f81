-- Choices between numbers.
use Rattle.std.proofs.Common.{◌≡◌, ◌≢◌, ◌⊎◌, inl, inr, ⊎_elim, ℕ, ◌≤◌, ◌<◌, sym, subst, arith, zero, suc}
use Rattle.std.proofs.lemmas.Bool.{cases_eq}
use Rattle.std.proofs.Math.Nat.{not-suc-le-zero}

pub below_next : {m n : ℕ} → m < n → m < suc n
below_next less = omega arith

pub lt_or_ge : (m n : ℕ) → (m < n) ⊎ (n ≤ m)
lt_or_ge m zero = inr (omega arith)
lt_or_ge zero (suc n) = inl (omega arith)
lt_or_ge (suc m) (suc n) = ⊎_elim (λ (less : m < n). inl (omega arith)) (λ (more : n ≤ m). inr (omega arith)) (lt_or_ge m n)

-- a number below the next one is that one, or below it
pub last_or_below : (i n : ℕ) → i < suc n → (i ≡ n) ⊎ (i < n)
last_or_below i n below = ⊎_elim (λ (is : i ≡ n). inl is) (λ (other : i ≢ n). inr (omega arith)) (cases_eq i n)

-- of the numbers below one, either all have a property or one of them doesn't
pub all_or_one : (n : ℕ) (Has : ℕ → Type 0) → ((i : ℕ) → Has i ⊎ (Has i → ⊥)) → ((i : ℕ) → i < n → Has i) ⊎ ((i : ℕ) × (i < n) × (Has i → ⊥))
all_or_one zero Has decides = inl (λ i below. absurd (not-suc-le-zero below))
all_or_one (suc n) Has decides = ⊎_elim
    (λ (all : (i : ℕ) → i < n → Has i). ⊎_elim
    (λ (last : Has n). inl (λ i below. ⊎_elim (λ (is : i ≡ n). subst Has (sym is) last) (λ (less : i < n). all i less) (last_or_below i n below)))
    (λ (not : Has n → ⊥). inr (n, omega arith, not))
    (decides n))
    (λ (one : (i : ℕ) × (i < n) × (Has i → ⊥)). inr (one.0, below_next one.1, one.2))
    (all_or_one n Has decides)

-- where a number has a property that can be decided, there is a lowest one
pub lowest_below : (Has : ℕ → Type 0) → ((i : ℕ) → Has i ⊎ (Has i → ⊥)) → (n : ℕ)
    → ((i : ℕ) → i < n → Has i → ⊥) ⊎ ((i : ℕ) × Has i × ((j : ℕ) → Has j → i ≤ j))
lowest_below Has decides zero = inl (λ i below. absurd (not-suc-le-zero below))
lowest_below Has decides (suc n) = ⊎_elim
    (λ (none : (i : ℕ) → i < n → Has i → ⊥). ⊎_elim
    (λ (has : Has n). inr (n, has, λ j its. ⊎_elim (λ (less : j < n). absurd (none j less its)) (λ (more : n ≤ j). more) (lt_or_ge j n)))
    (λ (not : Has n → ⊥). inl (λ i below its. ⊎_elim (λ (is : i ≡ n). not (subst Has is its)) (λ (less : i < n). none i less its) (last_or_below i n below)))
    (decides n))
    (λ (one : (i : ℕ) × Has i × ((j : ℕ) → Has j → i ≤ j)). inr one)
    (lowest_below Has decides n)
