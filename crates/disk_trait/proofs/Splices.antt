-- what stands where after bytes were put over others
use Rattle.std.proofs.Common.{◌≡◌, ◌⊎◌, inl, inr, ℕ, ◌+◌, ◌-◌, ◌≤◌, ◌<◌, List, ◌++◌, length, take, drop, get_or, sym, ◌∙◌, ap, subst, ⊎_elim, arith, length-append, length-drop}
use Rattle.std.proofs.lemmas.Bool.{cases_lt}
use Rattle.std.proofs.lemmas.List.{length-take-le, get_or_append_left, get_or-append_right, get_or-take, get_or-drop, ext_get_or}
use Rattle.disk_trait.specs.Spliced.{spliced}
use Rattle.disk_trait.specs.Torn.{Torn}
use Rattle.disk_trait.specs.TornLaws.{length-spliced, take-spliced, behind-spliced}

module _ (old : List ℕ) (at : ℕ) (bytes : List ℕ) (fits : at + length bytes ≤ length old) where
  front : length (take at old) ≡ at
  front = length-take-le at old (omega arith)

  reach : length (take at old ++ bytes) ≡ at + length bytes
  reach = omega (arith, front, length-append (take at old) bytes)

  pub torn_back : Torn at (length bytes) (spliced old at bytes) old
  torn_back = record { length = sym (length-spliced old at bytes fits); before = sym (take-spliced old at bytes fits); after = sym (behind-spliced old at bytes fits) }

  -- an element in the range
  pub get_or-spliced_within : (k : ℕ) → at ≤ k → k < at + length bytes → get_or (spliced old at bytes) k 0 ≡ get_or bytes (k - at) 0
  get_or-spliced_within k low high =
      get_or_append_left (take at old ++ bytes) (drop (at + length bytes) old) 0 k (omega (arith, reach))
      ∙ get_or-append_right (take at old) bytes at k 0 front low

  -- an element before it or behind it
  pub get_or-spliced_outside : (k : ℕ) → (k < at) ⊎ (at + length bytes ≤ k) → get_or (spliced old at bytes) k 0 ≡ get_or old k 0
  get_or-spliced_outside k apart = ⊎_elim before behind apart
    where
      before : k < at → get_or (spliced old at bytes) k 0 ≡ get_or old k 0
      before lt =
          get_or_append_left (take at old ++ bytes) (drop (at + length bytes) old) 0 k (omega (arith, reach))
          ∙ get_or_append_left (take at old) bytes 0 k (omega (arith, front))
          ∙ get_or-take at old k 0 lt

      behind : at + length bytes ≤ k → get_or (spliced old at bytes) k 0 ≡ get_or old k 0
      behind le =
          let e : at + length bytes + (k - (at + length bytes)) ≡ k = omega arith in
          get_or-append_right (take at old ++ bytes) (drop (at + length bytes) old) (at + length bytes) k 0 reach le
          ∙ get_or-drop (at + length bytes) old (k - (at + length bytes)) 0
          ∙ ap (λ (n : ℕ). get_or old n 0) e

-- an offset in a range, before it or behind it
pub where_it_is : (at n k : ℕ) → ((at ≤ k) × (k < at + n)) ⊎ ((k < at) ⊎ (at + n ≤ k))
where_it_is at n k =
    ⊎_elim (λ (lt : k < at). inr (inl lt)) (λ (le : at ≤ k). ⊎_elim (λ (lt : k < at + n). inl (le, lt)) (λ (behind : at + n ≤ k). inr (inr behind)) (cases_lt k (at + n))) (cases_lt k at)

-- an element of what stood in a range
pub get_or-range : (old : List ℕ) (at n k : ℕ) → at ≤ k → k < at + n → get_or (take n (drop at old)) (k - at) 0 ≡ get_or old k 0
get_or-range old at n k low high =
    let e : at + (k - at) ≡ k = omega arith in
    get_or-take n (drop at old) (k - at) 0 (omega arith) ∙ get_or-drop at old (k - at) 0 ∙ ap (λ (m : ℕ). get_or old m 0) e

pub length-range : (old : List ℕ) (at n : ℕ) → at + n ≤ length old → length (take n (drop at old)) ≡ n
length-range old at n fits = length-take-le n (drop at old) (omega (arith, length-drop at old))

-- the bytes that were replaced, put back, give what was
pub spliced_back : (old : List ℕ) (at : ℕ) (bytes : List ℕ) → at + length bytes ≤ length old → spliced (spliced old at bytes) at (take (length bytes) (drop at old)) ≡ old
spliced_back old at bytes fits =
    let replaced = take (length bytes) (drop at old) in
    let n : length replaced ≡ length bytes = length-range old at (length bytes) fits in
    let room : at + length replaced ≤ length (spliced old at bytes) = omega (arith, n, fits, length-spliced old at bytes fits) in
    let long : length (spliced (spliced old at bytes) at replaced) ≡ length old = length-spliced (spliced old at bytes) at replaced room ∙ length-spliced old at bytes fits in
    ext_get_or 0 (spliced (spliced old at bytes) at replaced) old long
    (λ k lt. ⊎_elim
    (λ (inside : (at ≤ k) × (k < at + length replaced)). get_or-spliced_within (spliced old at bytes) at replaced room k inside.0 inside.1 ∙ get_or-range old at (length bytes) k inside.0 (omega (arith, n, inside.1)))
    (λ (apart : (k < at) ⊎ (at + length replaced ≤ k)). get_or-spliced_outside (spliced old at bytes) at replaced room k apart
    ∙ get_or-spliced_outside old at bytes fits k (subst (λ (m : ℕ). (k < at) ⊎ (at + m ≤ k)) n apart))
    (where_it_is at (length replaced) k))
