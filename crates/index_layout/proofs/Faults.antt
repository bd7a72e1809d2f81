-- The parts of a fault: there is none exactly where no part has one. Zeros have none.
use Rattle.std.proofs.Common.{◌≡◌, ℕ, zero, suc, ◌+◌, ◌≤◌, Bool, true, false, not, cond, eqb, List, [], ◌∷◌, length, refl, ap, arith}
use Rattle.std.specs.Prelude.{Option, None, Some, replicate}
use Rattle.std.specs.List.{prefix_len}
use Rattle.std.proofs.lemmas.Bool.{eqb-true, ltb-false, le-ltb}
use Rattle.std.proofs.lemmas.List.{length-replicate}
use Rattle.index_layout.specs.IndexFaults.{first_of, shifted, fault_unless, zeros_fault}

pub holds-unless : (b : Bool) (at : ℕ) → fault_unless b at ≡ None → b ≡ true
holds-unless true at e = refl
holds-unless false at e = absurd cc

pub first_none : (a b : Option ℕ) → first_of a b ≡ None → (a ≡ None) × (b ≡ None)
first_none None b e = (refl, e)
first_none (Some at) b e = absurd cc

pub shifted-none : (n : ℕ) (o : Option ℕ) → shifted n o ≡ None → o ≡ None
shifted-none n None e = refl
shifted-none n (Some at) e = absurd cc

pub shifted-twice : (a b : ℕ) (o : Option ℕ) → shifted a (shifted b o) ≡ shifted (a + b) o
shifted-twice a b None = refl
shifted-twice a b (Some at) = ap Some (let e : a + (b + at) ≡ a + b + at = omega arith in e)

none_of : (b : Bool) (n : ℕ) → cond b (Some n) None ≡ None → b ≡ false
none_of true n e = absurd cc
none_of false n e = refl

front_zeros : List ℕ → ℕ
front_zeros bytes = prefix_len (λ byte. not (not (eqb byte 0))) bytes

one_zero : (b : ℕ) (bytes : List ℕ) (t : Bool) → eqb b 0 ≡ t → length (b ∷ bytes) ≤ cond (not (not t)) (1 + front_zeros bytes) 0 → (length bytes ≤ front_zeros bytes → bytes ≡ replicate (length bytes) 0) → b ∷ bytes ≡ replicate (length (b ∷ bytes)) 0
one_zero b bytes true e le rest = λ i. eqb-true b 0 e i ∷ rest (omega arith) i
one_zero b bytes false e le rest = absurd (omega arith)

all_zero : (bytes : List ℕ) → length bytes ≤ front_zeros bytes → bytes ≡ replicate (length bytes) 0
unfolding front_zeros
all_zero [] le = refl
all_zero (b ∷ bytes) le = one_zero b bytes (eqb b 0) refl le (all_zero bytes)

-- bytes of which each is zero
pub zeros_take : (bytes : List ℕ) → zeros_fault bytes ≡ None → bytes ≡ replicate (length bytes) 0
unfolding front_zeros
zeros_take bytes f = all_zero bytes (ltb-false _ _ (none_of _ _ f))

zeros_long : (n : ℕ) → prefix_len (λ byte. not (not (eqb byte 0))) (replicate n 0) ≡ n
zeros_long zero = refl
zeros_long (suc n) = omega (arith, zeros_long n)

pub zeros_pass : (n : ℕ) → zeros_fault (replicate n 0) ≡ None
zeros_pass n = ap (λ (b : Bool). cond b (Some (prefix_len (λ byte. not (not (eqb byte 0))) (replicate n 0))) None) (le-ltb _ _ (omega (arith, zeros_long n, length-replicate {A = ℕ} n 0)))
