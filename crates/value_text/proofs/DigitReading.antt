-- Digits are what is read as them.
use Rattle.std.proofs.Common.{◌≡◌, ℕ, Bool, true, false, cond, ◌&&◌, ◌==◌, List, [], ◌∷◌, ◌++◌, Result, Ok, Err, refl, sym, ap, ◌∙◌, inl, inr, arith}
use Rattle.std.specs.List.{list_all}
use Rattle.std.proofs.lemmas.Bool.Decides.{eqb_tells}
use Rattle.std.proofs.lemmas.Bool.{and_parts}
use Rattle.block_model.specs.Names.{is_digit}
use Rattle.value_text.specs.Digits.{AreDigits}
use Rattle.value_text.specs.TextReading.{begins, with_first, split_digits, digits_at}
use Rattle.value_text.proofs.Lawful.{Obeys, Lawful}

-- what passes a test isn't a byte that fails it
pub other_byte : (test : ℕ → Bool) (b c : ℕ) → test b ≡ false → test c ≡ true → (c == b) ≡ false
other_byte test b c off on = elim (eqb_tells c b) as (λ x. (c == b) ≡ false) [ inl here ↦ (let e : test c ≡ test b = ap test here.1 in cc) | inr later ↦ later.0 ]

record Splits (bytes : List ℕ) (s : List ℕ × List ℕ) : Type 0 where
  whole : bytes ≡ s.0 ++ s.1
  digits : list_all is_digit s.0 ≡ true
  same : (x : ℕ) (rest more : List ℕ) → s.1 ≡ x ∷ rest → split_digits (s.0 ++ x ∷ more) ≡ (s.0, x ∷ more)

abbrev none_before : List ℕ → List ℕ × List ℕ
none_before bytes = ([], bytes)

splits_step : (c : ℕ) (cs : List ℕ) (b : Bool) → is_digit c ≡ b → Splits cs (split_digits cs) → Splits (c ∷ cs) (cond b (with_first c (split_digits cs)) (none_before (c ∷ cs)))
splits_step c cs true e h = record {
  whole = ap (λ l. c ∷ l) h.whole;
  digits = ap (λ b. b && list_all is_digit (split_digits cs).0) e ∙ h.digits;
  same = λ x rest more k. ap (λ b. cond b (with_first c (split_digits ((split_digits cs).0 ++ x ∷ more))) (none_before (c ∷ ((split_digits cs).0 ++ x ∷ more)))) e
      ∙ ap (with_first c) (h.same x rest more k);
}
splits_step c cs false e h = record {
  whole = refl;
  digits = refl;
  same = λ x rest more k. let d : c ≡ x = cc in ap (λ b. cond b (with_first x (split_digits more)) (none_before (x ∷ more))) (ap is_digit (sym d) ∙ e);
}

splits : (bytes : List ℕ) → Splits bytes (split_digits bytes)
splits [] = record { whole = refl; digits = refl; same = λ x rest more k. cc }
splits (c ∷ cs) = splits_step c cs (is_digit c) refl (splits cs)

abbrev Digits : Type 0
Digits = Result (List ℕ × List ℕ) (List ℕ)

-- a digit is a text of digits
pub one_digit : AreDigits (48 ∷ [])
one_digit = record { some = omega arith; digits = refl }

digits_step : (c : ℕ) (cs : List ℕ) (b : Bool) → is_digit c ≡ b → (answer : Digits) × Obeys digits_at (λ ds. ds) AreDigits (c ∷ cs) answer
unfolding digits_at
digits_step c cs true e =
    let h = splits_step c cs true e (splits cs) in (
      Ok (with_first c (split_digits cs)),
      record {
        front = c ∷ (split_digits cs).0;
        is = ap (λ b. cond b (Ok (cond b (with_first c (split_digits cs)) (none_before (c ∷ cs)))) (Err (c ∷ cs))) e;
        whole = h.whole;
        same = λ x rest more k. ap (λ b. cond b (Ok (split_digits (c ∷ ((split_digits cs).0 ++ x ∷ more)))) (Err (c ∷ ((split_digits cs).0 ++ x ∷ more)))) e
            ∙ ap Ok (h.same x rest more k);
        judged = (record { some = omega arith; digits = h.digits }, refl);
      },
    )
digits_step c cs false e = (
  Err (c ∷ cs),
  record {
    front = [];
    is = ap (λ b. cond b (Ok (split_digits (c ∷ cs))) (Err (c ∷ cs))) e;
    whole = refl;
    same = λ x rest more k. let d : c ≡ x = cc in ap (λ b. cond b (Ok (split_digits (x ∷ more))) (Err (x ∷ more))) (ap is_digit (sym d) ∙ e);
    judged = (48 ∷ [], 48 ∷ [], one_digit, refl);
  },
)

pub digits_lawful : Lawful digits_at (λ ds. ds) AreDigits
unfolding digits_at
digits_lawful [] = (Err [], record { front = []; is = refl; whole = refl; same = λ x rest more k. cc; judged = (48 ∷ [], 48 ∷ [], one_digit, refl) })
digits_lawful (c ∷ cs) = digits_step c cs (is_digit c) refl

split_complete : (ds rest : List ℕ) → list_all is_digit ds ≡ true → begins is_digit rest ≡ false → split_digits (ds ++ rest) ≡ (ds, rest)
split_complete [] [] h e = refl
split_complete [] (c ∷ cs) h e = ap (λ b. cond b (with_first c (split_digits cs)) (none_before (c ∷ cs))) e
split_complete (d ∷ ds) rest h e =
    let p = and_parts (is_digit d) (list_all is_digit ds) h in
    ap (λ b. cond b (with_first d (split_digits (ds ++ rest))) (none_before (d ∷ (ds ++ rest)))) p.0 ∙ ap (with_first d) (split_complete ds rest p.1 e)

-- digits behind which none stands are read
pub digits_complete : (ds rest : List ℕ) → AreDigits ds → begins is_digit rest ≡ false → digits_at (ds ++ rest) ≡ Ok (ds, rest)
unfolding digits_at
digits_complete [] rest h e = absurd (omega (arith, h.some))
digits_complete (d ∷ ds) rest h e =
    let p = and_parts (is_digit d) (list_all is_digit ds) h.digits in
    ap (λ b. cond b (Ok (split_digits (d ∷ (ds ++ rest)))) (Err (d ∷ (ds ++ rest)))) p.0 ∙ ap Ok (split_complete (d ∷ ds) rest h.digits e)
