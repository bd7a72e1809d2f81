-- lists in which every place has an element
use Rattle.std.proofs.Common.{◌≡◌, ◌≢◌, ℕ, zero, suc, ◌+◌, ◌-◌, ◌<◌, ◌≤◌, List, [], ◌∷◌, ◌++◌, length, replicate, set, get_or, refl, sym, ap, ◌∙◌, arith, zero-le, append_assoc}
use Rattle.std.proofs.lemmas.List.{get_or_past, replicate_more}
use Rattle.kept_tuples.specs.Places.{placed}

module _ {X : Type 0} (blank : X) where
  pub placed_inside : (xs : List X) (at : ℕ) (x : X) → at < length xs → placed blank xs at x ≡ set xs at x
  placed_inside [] at x inside = absurd (omega (arith, inside))
  placed_inside (y ∷ ys) zero x inside = refl
  placed_inside (y ∷ ys) (suc at) x inside = ap (λ (l : List X). y ∷ l) (placed_inside ys at x (omega (arith, inside)))

  pub placed_behind : (xs : List X) (at : ℕ) (x : X) → length xs ≤ at → placed blank xs at x ≡ (xs ++ replicate (at - length xs) blank) ++ x ∷ []
  placed_behind [] zero x behind = let e : 0 ≡ zero - 0 = omega arith in ap (λ (n : ℕ). ([] ++ replicate n blank) ++ x ∷ []) e
  placed_behind [] (suc at) x behind =
      let e : suc (at - 0) ≡ suc at - 0 = omega arith in
      ap (λ (l : List X). blank ∷ l) (placed_behind [] at x (omega arith)) ∙ ap (λ (n : ℕ). ([] ++ replicate n blank) ++ x ∷ []) e
  placed_behind (y ∷ ys) zero x behind = absurd (omega (arith, behind))
  placed_behind (y ∷ ys) (suc at) x behind =
      let e : at - length ys ≡ suc at - suc (length ys) = omega arith in
      ap (λ (l : List X). y ∷ l) (placed_behind ys at x (omega (arith, behind))) ∙ ap (λ (n : ℕ). (y ∷ ys ++ replicate n blank) ++ x ∷ []) e

  -- one blank place more
  pub more_blanks : (xs : List X) (from at : ℕ) → from ≤ at → (xs ++ replicate (at - from) blank) ++ blank ∷ [] ≡ xs ++ replicate (at + 1 - from) blank
  more_blanks xs from at low =
      let e : at - from + 1 ≡ at + 1 - from = omega (arith, low) in
      append_assoc xs (replicate (at - from) blank) (blank ∷ []) ∙ ap (λ (l : List X). xs ++ l) (replicate_more (at - from) blank ∙ ap (λ (n : ℕ). replicate n blank) e)

  -- no place of the empty list has been filled
  past : (k : ℕ) → get_or [] k blank ≡ blank
  past k = get_or_past [] k blank zero-le

  pub placed_here : (xs : List X) (at : ℕ) (x : X) → get_or (placed blank xs at x) at blank ≡ x
  placed_here [] zero x = refl
  placed_here [] (suc at) x = placed_here [] at x
  placed_here (y ∷ ys) zero x = refl
  placed_here (y ∷ ys) (suc at) x = placed_here ys at x

  pub placed_else : (xs : List X) (at k : ℕ) (x : X) → k ≢ at → get_or (placed blank xs at x) k blank ≡ get_or xs k blank
  placed_else [] zero zero x apart = absurd (apart refl)
  placed_else [] zero (suc k) x apart = past k ∙ sym (past (suc k))
  placed_else [] (suc at) zero x apart = sym (past zero)
  placed_else [] (suc at) (suc k) x apart = placed_else [] at k x (λ same. apart (ap suc same)) ∙ past k ∙ sym (past (suc k))
  placed_else (y ∷ ys) zero zero x apart = absurd (apart refl)
  placed_else (y ∷ ys) zero (suc k) x apart = refl
  placed_else (y ∷ ys) (suc at) zero x apart = refl
  placed_else (y ∷ ys) (suc at) (suc k) x apart = placed_else ys at k x (λ same. apart (ap suc same))

-- places are as many in both lists as before, if these were
pub same_length : {X Y : Type 0} (b : X) (c : Y) (xs : List X) (ys : List Y) (at : ℕ) (x : X) (y : Y) → length xs ≡ length ys → length (placed b xs at x) ≡ length (placed c ys at y)
same_length b c [] [] zero x y same = refl
same_length b c [] [] (suc at) x y same = ap suc (same_length b c [] [] at x y same)
same_length b c [] (w ∷ ys) at x y same = absurd (omega (arith, same))
same_length b c (v ∷ xs) [] at x y same = absurd (omega (arith, same))
same_length b c (v ∷ xs) (w ∷ ys) zero x y same = same
same_length b c (v ∷ xs) (w ∷ ys) (suc at) x y same = ap suc (same_length b c xs ys at x y (omega (arith, same)))
