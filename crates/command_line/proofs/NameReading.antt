-- Names are what is read as them.
use Rattle.std.proofs.Common.{◌≡◌, ℕ, zero, suc, ◌≤◌, min, Bool, true, false, cond, ◌&&◌, ◌||◌, ◌==◌, ◌+◌, List, [], ◌∷◌, ◌++◌, length, take, drop, Result, Ok, Err, refl, sym, ap, ◌∙◌, arith}
use Rattle.std.specs.Prelude.{nat_le}
use Rattle.std.specs.List.{list_all, prefix_len}
use Rattle.std.proofs.lemmas.Bool.{le-leb, leb-true, and_parts}
use Rattle.block_model.specs.Names.{is_lower, is_more, is_digit}
use Rattle.value_text.specs.TextReading.{begins, with_first}
use Rattle.value_text.proofs.Lawful.{Obeys, Lawful}
use Rattle.command_line.specs.DeclarationTexts.{IsNamed}
use Rattle.command_line.specs.DeclarationReading.{split_name, name_at}
use Rattle.command_line.proofs.FrontReading.{read_front}

record Splits (n : ℕ) (bytes : List ℕ) (s : List ℕ × List ℕ) : Type 0 where
  whole : bytes ≡ s.0 ++ s.1
  more : list_all is_more s.0 ≡ true
  few : length s.0 ≤ n
  same : (x : ℕ) (rest after : List ℕ) → s.1 ≡ x ∷ rest → split_name n (s.0 ++ x ∷ after) ≡ (s.0, x ∷ after)

abbrev none_before : List ℕ → List ℕ × List ℕ
none_before bytes = ([], bytes)

splits_step : (n c : ℕ) (cs : List ℕ) (b : Bool) → is_more c ≡ b → Splits n cs (split_name n cs) → Splits (suc n) (c ∷ cs) (cond b (with_first c (split_name n cs)) (none_before (c ∷ cs)))
splits_step n c cs true e h = record {
  whole = ap (λ l. c ∷ l) h.whole;
  more = ap (λ b. b && list_all is_more (split_name n cs).0) e ∙ h.more;
  few = (let k : length (split_name n cs).0 ≤ n = h.few in omega arith);
  same = λ x rest after k. ap (λ b. cond b (with_first c (split_name n ((split_name n cs).0 ++ x ∷ after))) (none_before (c ∷ ((split_name n cs).0 ++ x ∷ after)))) e
      ∙ ap (with_first c) (h.same x rest after k);
}
splits_step n c cs false e h = record {
  whole = refl;
  more = refl;
  few = omega arith;
  same = λ x rest after k. let d : c ≡ x = cc in ap (λ b. cond b (with_first x (split_name n after)) (none_before (x ∷ after))) (ap is_more (sym d) ∙ e);
}

splits : (n : ℕ) (bytes : List ℕ) → Splits n bytes (split_name n bytes)
splits zero bytes = record { whole = refl; more = refl; few = omega arith; same = λ x rest after k. refl }
splits (suc n) [] = record { whole = refl; more = refl; few = omega arith; same = λ x rest after k. cc }
splits (suc n) (c ∷ cs) = splits_step n c cs (is_more c) refl (splits n cs)

-- a letter is a name
pub one_letter : IsNamed (97 ∷ [])
one_letter = refl

is_named : (c : ℕ) (more : List ℕ) → is_lower c ≡ true → length more ≤ 15 → list_all is_more more ≡ true → IsNamed (c ∷ more)
is_named c more lower few all = ap (λ b. b && nat_le (length more) 15 && list_all is_more more) lower ∙ ap (λ b. b && list_all is_more more) (le-leb (length more) 15 few) ∙ all

abbrev Names : Type 0
Names = Result (List ℕ × List ℕ) (List ℕ)

abbrev as_name : ℕ → List ℕ → Names
as_name c cs = Ok (with_first c (split_name 15 cs))

name_step : (c : ℕ) (cs : List ℕ) (b : Bool) → is_lower c ≡ b → (answer : Names) × Obeys name_at (λ name. name) IsNamed (c ∷ cs) answer
unfolding name_at
name_step c cs true e =
    let h = splits 15 cs in (
      as_name c cs,
      record {
        front = c ∷ (split_name 15 cs).0;
        is = ap (λ b. cond b (as_name c cs) (Err (c ∷ cs))) e;
        whole = ap (λ l. c ∷ l) h.whole;
        same = λ x rest after k. ap (λ b. cond b (as_name c ((split_name 15 cs).0 ++ x ∷ after)) (Err (c ∷ ((split_name 15 cs).0 ++ x ∷ after)))) e
            ∙ ap (λ s. Ok (with_first c s)) (h.same x rest after k);
        judged = (is_named c (split_name 15 cs).0 e h.few h.more, refl);
      },
    )
name_step c cs false e = (
  Err (c ∷ cs),
  record {
    front = [];
    is = ap (λ b. cond b (as_name c cs) (Err (c ∷ cs))) e;
    whole = refl;
    same = λ x rest after k. let d : c ≡ x = cc in ap (λ b. cond b (as_name x after) (Err (x ∷ after))) (ap is_lower (sym d) ∙ e);
    judged = (97 ∷ [], 97 ∷ [], one_letter, refl);
  },
)

pub name_lawful : Lawful name_at (λ name. name) IsNamed
unfolding name_at
name_lawful [] = (Err [], record { front = []; is = refl; whole = refl; same = λ x rest after k. cc; judged = (97 ∷ [], 97 ∷ [], one_letter, refl) })
name_lawful (c ∷ cs) = name_step c cs (is_lower c) refl

split_complete : (n : ℕ) (ds rest : List ℕ) → length ds ≤ n → list_all is_more ds ≡ true → begins is_more rest ≡ false → split_name n (ds ++ rest) ≡ (ds, rest)
split_complete zero [] rest few all e = refl
split_complete zero (d ∷ ds) rest few all e = absurd (omega arith)
split_complete (suc n) [] [] few all e = refl
split_complete (suc n) [] (c ∷ cs) few all e = ap (λ b. cond b (with_first c (split_name n cs)) (none_before (c ∷ cs))) e
split_complete (suc n) (d ∷ ds) rest few all e =
    let p = and_parts (is_more d) (list_all is_more ds) all in
    ap (λ b. cond b (with_first d (split_name n (ds ++ rest))) (none_before (d ∷ (ds ++ rest)))) p.0 ∙ ap (with_first d) (split_complete n ds rest (omega arith) p.1 e)

-- a name behind which none of its bytes stands is read
pub name_complete : (name rest : List ℕ) → IsNamed name → begins is_more rest ≡ false → name_at (name ++ rest) ≡ Ok (name, rest)
unfolding name_at
name_complete [] rest h e = cc
name_complete (c ∷ more) rest h e =
    let p = and_parts (is_lower c && nat_le (length more) 15) (list_all is_more more) h in
    let q = and_parts (is_lower c) (nat_le (length more) 15) p.0 in
    ap (λ b. cond b (as_name c (more ++ rest)) (Err (c ∷ (more ++ rest)))) q.0
    ∙ ap (λ s. Ok (with_first c s)) (split_complete 15 more rest (leb-true (length more) 15 q.1) p.1 e)

abbrev cut : ℕ → List ℕ → List ℕ × List ℕ
cut n bytes = (take n bytes, drop n bytes)

count_step : (n c : ℕ) (cs : List ℕ) (b : Bool) → split_name n cs ≡ cut (min n (prefix_len is_more cs)) cs
    → cond b (with_first c (split_name n cs)) (none_before (c ∷ cs)) ≡ cut (min (suc n) (cond b (1 + prefix_len is_more cs) 0)) (c ∷ cs)
count_step n c cs true e =
    let k : suc (min n (prefix_len is_more cs)) ≡ min (suc n) (1 + prefix_len is_more cs) = omega arith in
    ap (with_first c) e ∙ ap (λ m. cut m (c ∷ cs)) k
count_step n c cs false e =
    let k : 0 ≡ min (suc n) 0 = omega arith in
    ap (λ m. cut m (c ∷ cs)) k

-- the bytes that go on with a name are as many as their count, up to the limit
split_name_count : (n : ℕ) (bytes : List ℕ) → split_name n bytes ≡ cut (min n (prefix_len is_more bytes)) bytes
split_name_count zero bytes = let k : 0 ≡ min 0 (prefix_len is_more bytes) = omega arith in ap (λ m. cut m bytes) k
split_name_count (suc n) [] = let k : 0 ≡ min (suc n) 0 = omega arith in ap (λ m. cut m []) k
split_name_count (suc n) (c ∷ cs) = count_step n c cs (is_more c) (split_name_count n cs)

more_if_lower : (c : ℕ) → is_lower c ≡ true → is_more c ≡ true
more_if_lower c e = ap (λ b. b || is_digit c || (c == 95)) e

-- where a letter stands, the name is split off
pub name_at_count : (bytes front back : List ℕ) (n : ℕ) → begins is_lower bytes ≡ true → n ≡ min (prefix_len is_more bytes) 16 → front ≡ take n bytes → back ≡ drop n bytes → name_at bytes ≡ Ok (front, back)
unfolding name_at
name_at_count [] front back n b e f g = cc
name_at_count (c ∷ cs) front back n b e f g =
    let count : prefix_len is_more (c ∷ cs) ≡ 1 + prefix_len is_more cs = ap (λ b. cond b (1 + prefix_len is_more cs) 0) (more_if_lower c b) in
    let same : suc (min 15 (prefix_len is_more cs)) ≡ n = omega arith in
    ap (λ b. cond b (as_name c cs) (Err (c ∷ cs))) b
    ∙ ap (λ s. Ok (with_first c s)) (split_name_count 15 cs)
    ∙ ap (λ m. Ok (cut m (c ∷ cs))) same
    ∙ (λ i. Ok (sym f i, sym g i))

-- elsewhere there is none
pub name_at_none : (bytes : List ℕ) → begins is_lower bytes ≡ false → name_at bytes ≡ Err bytes
unfolding name_at
name_at_none [] b = refl
name_at_none (c ∷ cs) b = ap (λ b. cond b (as_name c cs) (Err (c ∷ cs))) b

-- what is read is a name
pub read_is_named : (bytes name rest : List ℕ) → name_at bytes ≡ Ok (name, rest) → IsNamed name
read_is_named bytes name rest e = (read_front name_at (λ name. name) IsNamed name_lawful bytes name rest e).is
