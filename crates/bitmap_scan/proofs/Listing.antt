-- the candidates, listed one after the other
use Rattle.std.proofs.Common.{◌≡◌, ℕ, zero, suc, ◌+◌, Bool, cond, List, [], ◌∷◌, ◌++◌, sym, ap, ◌∙◌, arith}
use Rattle.std.specs.List.{filter, range_with_len}
use Rattle.std.proofs.lemmas.List.Elements.{filter-append}

range_more : (a n : ℕ) → range_with_len a (n + 1) ≡ range_with_len a n ++ (a + n) ∷ []
range_more a zero = ap (λ (b : ℕ). b ∷ []) {x = a} {y = a + 0} (omega arith)
range_more a (suc n) =
    ap (range_with_len a) {x = suc n + 1} {y = suc (n + 1)} (omega arith)
    ∙ ap (λ (l : List ℕ). a ∷ l) (range_more (a + 1) n ∙ ap (λ (b : ℕ). range_with_len (a + 1) n ++ b ∷ []) {x = a + 1 + n} {y = a + suc n} (omega arith))

first_more : (n : ℕ) → range_with_len 0 (n + 1) ≡ range_with_len 0 n ++ n ∷ []
first_more n = range_more 0 n ∙ ap (λ (b : ℕ). range_with_len 0 n ++ b ∷ []) {x = 0 + n} {y = n} (omega arith)

filtered : (p : ℕ → Bool) (n : ℕ) → filter p (range_with_len 0 (n + 1)) ≡ filter p (range_with_len 0 n) ++ cond (p n) (n ∷ []) []
filtered p n = ap (filter p) (first_more n) ∙ filter-append p (range_with_len 0 n) (n ∷ [])

-- one block more
pub one_more : (p : ℕ → Bool) (n : ℕ) (listed listed' : List ℕ) → listed ≡ filter p (range_with_len 0 n) → (candidate : Bool) → candidate ≡ p n → listed' ≡ listed ++ cond candidate (n ∷ []) [] → listed' ≡ filter p (range_with_len 0 (n + 1))
one_more p n listed listed' is candidate there added =
    added ∙ ap (λ (l : List ℕ). l ++ cond candidate (n ∷ []) []) is ∙ ap (λ (b : Bool). filter p (range_with_len 0 n) ++ cond b (n ∷ []) []) there ∙ sym (filtered p n)
