-- The digits at the front of bytes, and the number of digits up to a limit.
use Rattle.std.proofs.Common.{◌≡◌, ℕ, ◌+◌, ◌*◌, ◌-◌, ◌<◌, ◌≤◌, min, Bool, true, false, cond, List, [], ◌∷◌, ◌++◌, take, drop, length, get_or, Ok, Err, refl, sym, ap, ◌∙◌, arith, one-add, add-one, inl, inr}
use Rattle.std.specs.List.{prefix_len}
use Rattle.std.proofs.Math.Seq.{drop-cons, take-suc}
use Rattle.std.proofs.lemmas.Bool.Decides.{leb_tells}
use Rattle.block_model.specs.Names.{is_digit}
use Rattle.value_text.specs.Digits.{digits_from}
use Rattle.value_text.specs.TextReading.{with_first, split_digits, digits_at}

-- digits behind a number make it no less
digits_from_least : (n : ℕ) (ds : List ℕ) → n ≤ digits_from n ds
digits_from_least n [] = omega arith
digits_from_least n (c ∷ cs) = omega (arith, digits_from_least (10 * n + (c - 48)) cs)

-- what is past the limit stays past it
digits_from_capped : (limit n : ℕ) (ds : List ℕ) → min (digits_from (min n limit) ds) limit ≡ min (digits_from n ds) limit
digits_from_capped limit n ds = elim (leb_tells n limit) as (λ x. min (digits_from (min n limit) ds) limit ≡ min (digits_from n ds) limit) [
  | inl t ↦ ap (λ m. min (digits_from m ds) limit) (let k : min n limit ≡ n = omega arith in k)
  | inr t ↦ (let k : min n limit ≡ limit = omega arith in ap (λ m. min (digits_from m ds) limit) k ∙ omega (arith, digits_from_least limit ds, digits_from_least n ds))
]

-- one digit more of a number up to the limit
pub capped_next : (limit n next i : ℕ) (ds : List ℕ) → i < length ds → next ≡ min (10 * n + (get_or ds i 0 - 48)) limit
    → min (digits_from next (drop (i + 1) ds)) limit ≡ min (digits_from n (drop i ds)) limit
capped_next limit n next i ds h e =
    let split : drop i ds ≡ get_or ds i 0 ∷ drop (i + 1) ds = drop-cons ds i 0 h ∙ ap (λ k. get_or ds i 0 ∷ drop k ds) (sym (add-one i)) in
    ap (λ m. min (digits_from m (drop (i + 1) ds)) limit) e
    ∙ digits_from_capped limit (10 * n + (get_or ds i 0 - 48)) (drop (i + 1) ds)
    ∙ sym (ap (λ l. min (digits_from n l) limit) split)

-- one digit more behind others
digits_from_more : (n : ℕ) (ds : List ℕ) (c : ℕ) → digits_from n (ds ++ c ∷ []) ≡ 10 * digits_from n ds + (c - 48)
digits_from_more n [] c = refl
digits_from_more n (d ∷ ds) c = digits_from_more (10 * n + (d - 48)) ds c

-- one digit more of a number up to the limit, from the front
pub counted_next : (limit number next i : ℕ) (text : List ℕ) → i < length text → number ≡ min (digits_from 0 (take i text)) limit
    → next ≡ min (10 * number + (get_or text i 0 - 48)) limit → next ≡ min (digits_from 0 (take (i + 1) text)) limit
counted_next limit number next i text h counted e =
    let split : take (i + 1) text ≡ take i text ++ get_or text i 0 ∷ [] = ap (λ k. take k text) (add-one i) ∙ take-suc text i 0 h in
    let grown : digits_from 0 (take (i + 1) text) ≡ 10 * digits_from 0 (take i text) + (get_or text i 0 - 48) =
    ap (digits_from 0) split ∙ digits_from_more 0 (take i text) (get_or text i 0) in
    let here : next ≡ min (10 * digits_from 0 (take i text) + (get_or text i 0 - 48)) limit = omega (arith, counted, e) in
    here ∙ ap (λ n. min n limit) (sym grown)

abbrev cut : ℕ → List ℕ → List ℕ × List ℕ
cut n bytes = (take n bytes, drop n bytes)

count_step : (c : ℕ) (cs : List ℕ) (b : Bool) → split_digits cs ≡ cut (prefix_len is_digit cs) cs
    → cond b (with_first c (split_digits cs)) (cut 0 (c ∷ cs)) ≡ cut (cond b (1 + prefix_len is_digit cs) 0) (c ∷ cs)
count_step c cs true e = ap (with_first c) e ∙ ap (λ n. cut n (c ∷ cs)) (sym (one-add (prefix_len is_digit cs)))
count_step c cs false e = refl

-- the digits at the front are as many as their count
split_digits_count : (bytes : List ℕ) → split_digits bytes ≡ cut (prefix_len is_digit bytes) bytes
split_digits_count [] = refl
split_digits_count (c ∷ cs) = count_step c cs (is_digit c) (split_digits_count cs)

first_step : (c : ℕ) (cs : List ℕ) (b : Bool) → is_digit c ≡ b → 0 < cond b (1 + prefix_len is_digit cs) 0 → digits_at (c ∷ cs) ≡ Ok (split_digits (c ∷ cs))
unfolding digits_at
first_step c cs true e some = ap (λ b. cond b (Ok (split_digits (c ∷ cs))) (Err (c ∷ cs))) e
first_step c cs false e some = absurd (omega arith)

some_digits : (bytes : List ℕ) → 0 < prefix_len is_digit bytes → digits_at bytes ≡ Ok (split_digits bytes)
some_digits [] some = absurd (omega arith)
some_digits (c ∷ cs) some = first_step c cs (is_digit c) refl some

-- where there are digits, they are split off
pub digits_at_count : (bytes front back : List ℕ) (n : ℕ) → n ≡ prefix_len is_digit bytes → 0 < n → front ≡ take n bytes → back ≡ drop n bytes → digits_at bytes ≡ Ok (front, back)
digits_at_count bytes front back n e some f b =
    some_digits bytes (omega arith) ∙ ap Ok (split_digits_count bytes ∙ ap (λ n. cut n bytes) (sym e)) ∙ (λ i. Ok (sym f i, sym b i))
