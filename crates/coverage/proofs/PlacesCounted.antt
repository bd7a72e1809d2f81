-- How many places are so at most, where one joins them or leaves them.
use Rattle.std.proofs.Common.{◌≡◌, ◌≢◌, ◌⊎◌, inl, inr, ⊎_elim, ℕ, ◌≤◌, List, [], ◌∷◌, length, sym, ◌∙◌, subst, arith, zero, suc}
use Rattle.std.specs.Prelude.{refl}
use Rattle.std.proofs.Math.Nat.{le-suc, le_refl}
use Rattle.block_model.specs.declared.place.Spot.{Spot}
use Rattle.coverage.specs.StepsLeft.{IsIn, AreApart, AreAtMost}

pub fewer : (P Q : Spot → Type 0) (n : ℕ) → ((x : Spot) → Q x → P x) → AreAtMost P n → AreAtMost Q n
fewer P Q n sub most xs apart all = most xs apart (λ x among. sub x (all x among))

-- one of them leaves
pub one_less : (P Q : Spot → Type 0) (x : Spot) (n : ℕ) → P x → ((y : Spot) → Q y → P y × (y ≢ x)) → AreAtMost P n
    → (m : ℕ) × (n ≡ suc m) × AreAtMost Q m
one_less P Q x zero is sub most =
    let one = most (x ∷ []) ((λ among. among), tt) (λ y among. elim among [ inl same ↦ subst P (sym same) is | inr none ↦ absurd none ]) in absurd (omega arith)
one_less P Q x (suc m) is sub most = (
  m,
  refl,
  λ xs apart all.
      let with_x = most (x ∷ xs) ((λ among. (sub x (all x among)).1 refl), apart)
      (λ y among. elim among [ inl same ↦ subst P (sym same) is | inr in_rest ↦ (sub y (all y in_rest)).0 ]) in
      omega arith,
)

-- without one place a list is shorter by one at most
module _ (P : Spot → Type 0) (x : Spot) where
  without : (xs : List Spot) → AreApart xs → ((y : Spot) → IsIn xs y → (y ≡ x) ⊎ P y)
      → (ys : List Spot) × AreApart ys × ((y : Spot) → IsIn ys y → P y × IsIn xs y) × (length xs ≤ suc (length ys))
  without [] apart all = ([], tt, (λ y among. absurd among), le-suc 0)
  without (z ∷ zs) apart all = ⊎_elim
      (λ (here : z ≡ x). (
        zs,
        apart.1,
        (λ y among. (
          elim (all y (inr among)) [ inl same ↦ absurd (apart.0 (subst (IsIn zs) (same ∙ sym here) among)) | inr is ↦ is ],
          inr among,
        )),
        le_refl (suc (length zs)),
      ))
      (λ (is : P z).
      let rest = without zs apart.1 (λ y among. all y (inr among)) in (
        z ∷ rest.0,
        ((λ among. apart.0 (rest.2 z among).1), rest.1),
        (λ y among. elim among [ inl same ↦ (subst P (sym same) is, inl same) | inr later ↦ ((rest.2 y later).0, inr (rest.2 y later).1) ]),
        omega (arith, rest.3),
      ))
      (all z (inl refl))

-- one more place joins them
pub one_more : (P Q : Spot → Type 0) (x : Spot) (n : ℕ) → ((y : Spot) → Q y → (y ≡ x) ⊎ P y) → AreAtMost P n → AreAtMost Q (suc n)
one_more P Q x n sub most xs apart all =
    let rest = without P x xs apart (λ y among. sub y (all y among)) in
    omega (arith, rest.3, most rest.0 rest.1 (λ y among. (rest.2 y among).0))
