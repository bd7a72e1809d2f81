-- Bytes go wrong at one place.
use Rattle.std.proofs.Common.{◌≡◌, ℕ, ◌+◌, ◌<◌, ◌≤◌, ◌-◌, ◌⊎◌, inl, inr, List, ◌++◌, take, drop, ap, ◌∙◌, append_assoc, arith}
use Rattle.std.proofs.Math.Seq.{take-add}
use Rattle.std.proofs.lemmas.Bool.{cases_order}
use Rattle.value_text.specs.StopsAt.{BeginsText, StopsAt}

module _ {A : Type 0} (written : A → List ℕ) (Is : A → Type 0) (bytes : List ℕ) where
  -- what begins a text begins one with fewer bytes too
  fewer : (n m : ℕ) → n ≤ m → BeginsText written Is (take m bytes) → BeginsText written Is (take n bytes)
  fewer n m below b =
      let cut : take m bytes ≡ take n bytes ++ take (m - n) (drop n bytes) = ap (λ k. take k bytes) (let k : m ≡ n + (m - n) = omega arith in k) ∙ take-add n (m - n) bytes in
      (b.0, take (m - n) (drop n bytes) ++ b.1, b.2, b.3 ∙ ap (λ l. l ++ b.1) cut ∙ append_assoc (take n bytes) (take (m - n) (drop n bytes)) b.1)

  none_earlier : (at place : ℕ) → StopsAt written Is bytes at → StopsAt written Is bytes place → at < place → ⊥
  none_earlier at place s t below = s.stops (omega (arith, t.within)) (fewer (at + 1) place (omega arith) t.goes_on)

  once_step : (at place : ℕ) → StopsAt written Is bytes at → StopsAt written Is bytes place → (at ≡ place) ⊎ ((at < place) ⊎ (place < at)) → at ≡ place
  once_step at place s t (inl e) = e
  once_step at place s t (inr (inl below)) = absurd (none_earlier at place s t below)
  once_step at place s t (inr (inr below)) = absurd (none_earlier place at t s below)

  pub stops_once : (at place : ℕ) → StopsAt written Is bytes at → StopsAt written Is bytes place → at ≡ place
  stops_once at place s t = once_step at place s t (cases_order at place)
