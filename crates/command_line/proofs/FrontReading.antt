-- What a lawful reading gives stands at the front of the bytes.
use Rattle.std.proofs.Common.{◌≡◌, ℕ, ◌+◌, ◌≤◌, List, ◌++◌, length, Result, Ok, Err, sym, ap, subst, ◌∙◌, length-append, arith}
use Rattle.std.specs.Result.{is_ok}
use Rattle.std.proofs.lemmas.Bool.{false≢true}
use Rattle.value_text.specs.TextReading.{Reading}
use Rattle.value_text.proofs.Lawful.{left, Obeys, Lawful}

-- what is read isn't refused
pub apart : {A : Type 0} (o : Result (A × List ℕ) (List ℕ)) (rest : List ℕ) (x : A × List ℕ) → o ≡ Err rest → o ≡ Ok x → ⊥
apart o rest x e k = false≢true (ap is_ok (sym e ∙ k))

-- what stands at the front, and what is behind it
pub record IsFront {A : Type 0} (written : A → List ℕ) (Is : A → Type 0) (bytes : List ℕ) (a : A) (rest : List ℕ) : Type 0 where
  pub is : Is a
  pub whole : bytes ≡ written a ++ rest

module _ {A : Type 0} (read : Reading A) (written : A → List ℕ) (Is : A → Type 0) where
  front_step : (bytes : List ℕ) (a : A) (rest : List ℕ) (o : Result (A × List ℕ) (List ℕ)) → Obeys read written Is bytes o → read bytes ≡ Ok (a, rest) → IsFront written Is bytes a rest
  front_step bytes a rest (Err r) h e = absurd (apart (read bytes) r (a, rest) h.is e)
  front_step bytes a rest (Ok p) h e =
      let k : Ok p ≡ Ok (a, rest) = sym h.is ∙ e in
      let same : p ≡ (a, rest) = cc in
      let found : IsFront written Is bytes p.0 p.1 = record { is = h.judged.0; whole = h.whole ∙ ap (λ l. l ++ p.1) h.judged.1 } in
      subst (λ (x : A × List ℕ). IsFront written Is bytes x.0 x.1) same found

  pub read_front : Lawful read written Is → (bytes : List ℕ) (a : A) (rest : List ℕ) → read bytes ≡ Ok (a, rest) → IsFront written Is bytes a rest
  read_front l bytes a rest e = let h = l bytes in front_step bytes a rest h.0 h.1 e

  leaves_step : (bytes : List ℕ) (o : Result (A × List ℕ) (List ℕ)) → Obeys read written Is bytes o → length (left (read bytes)) ≤ length bytes
  leaves_step bytes o h =
      let same : length (left (read bytes)) ≡ length (left o) = ap (λ (x : Result (A × List ℕ) (List ℕ)). length (left x)) h.is in
      let size : length bytes ≡ length h.front + length (left o) = ap length h.whole ∙ length-append h.front (left o) in
      omega arith

  -- and no more is left than there is
  pub lawful_leaves : Lawful read written Is → (bytes : List ℕ) → length (left (read bytes)) ≤ length bytes
  lawful_leaves l bytes = let h = l bytes in leaves_step bytes h.0 h.1
