-- elements by their places
use Rattle.std.proofs.Common.{◌≡◌, ℕ, zero, suc, ◌<◌, List, [], ◌∷◌, ◌++◌, length, take, drop, Some, ◌⊎◌, inl, inr, refl, sym, ap, ◌∙◌, arith, set}
use Rattle.std.specs.Prelude.{slice_get}
use Rattle.std.proofs.lemmas.List.{append-nil, drop_all, take_all}

pub some_same : {A : Type 0} (x y : A) → Some x ≡ Some y → x ≡ y
some_same x y e = cc

-- an element of a list and one more
pub snoc_cases : {A : Type 0} (xs : List A) (x y : A) (i : ℕ) → slice_get (xs ++ x ∷ []) i ≡ Some y → ((i < length xs) × (slice_get xs i ≡ Some y)) ⊎ ((i ≡ length xs) × (y ≡ x))
snoc_cases [] x y zero e = inr (refl, sym (some_same x y e))
snoc_cases [] x y (suc i) e = absurd (cc)
snoc_cases (z ∷ xs) x y zero e = inl (omega arith, e)
snoc_cases {A} (z ∷ xs) x y (suc i) e = further (snoc_cases xs x y i e)
  where
    further : ((i < length xs) × (slice_get xs i ≡ Some y)) ⊎ ((i ≡ length xs) × (y ≡ x)) → ((suc i < suc (length xs)) × (slice_get xs i ≡ Some y)) ⊎ ((suc i ≡ suc (length xs)) × (y ≡ x))
    further (inl p) = inl (omega (arith, p.0), p.1)
    further (inr p) = inr (ap suc p.0, p.1)

-- an element of a list in which one was replaced
pub set_cases : {A : Type 0} (xs : List A) (n i : ℕ) (x y : A) → slice_get (set xs n x) i ≡ Some y → ((i ≡ n) × (y ≡ x)) ⊎ (slice_get xs i ≡ Some y)
set_cases [] n i x y e = inr e
set_cases (z ∷ xs) zero zero x y e = inl (refl, sym (some_same x y e))
set_cases (z ∷ xs) zero (suc i) x y e = inr e
set_cases (z ∷ xs) (suc n) zero x y e = inr e
set_cases {A} (z ∷ xs) (suc n) (suc i) x y e = further (set_cases xs n i x y e)
  where
    further : ((i ≡ n) × (y ≡ x)) ⊎ (slice_get xs i ≡ Some y) → ((suc i ≡ suc n) × (y ≡ x)) ⊎ (slice_get xs i ≡ Some y)
    further (inl p) = inl (ap suc p.0, p.1)
    further (inr p) = inr p

-- there is one at each place
pub there : {A : Type 0} (xs : List A) (i : ℕ) → i < length xs → (x : A) × (slice_get xs i ≡ Some x)
there [] i h = absurd (omega (arith, h))
there (x ∷ xs) zero h = (x, refl)
there (x ∷ xs) (suc i) h = there xs i (omega (arith, h))

-- a list that was changed as a whole slice
pub back_whole : {A : Type 0} (new old : List A) (n : ℕ) → length new ≡ length old → length old ≡ n → take n (new ++ drop (length new) old) ≡ new
back_whole new old n same all =
    ap (λ rest. take n (new ++ rest)) (drop_all (length new) old (omega (arith, same))) ∙ ap (take n) (append-nil new) ∙ take_all n new (omega (arith, same, all))
