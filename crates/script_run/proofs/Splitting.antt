-- lines of bytes that come one after another, and of lines of which the first 65536 bytes are kept
use Rattle.std.proofs.Common.{◌≡◌, ◌≢◌, ℕ, zero, suc, ◌≤◌, true, false, cond, eqb, List, [], ◌∷◌, ◌++◌, length, take, min, refl, sym, ap, ◌∙◌, arith, append_assoc, ⊎_elim}
use Rattle.std.proofs.lemmas.List.{append-nil, take-take, take_all, length-take}
use Rattle.std.proofs.lemmas.Bool.{cases_lt}
use Rattle.std.proofs.lemmas.Bool.Decides.{eqb_tells}
use Rattle.script_run.specs.Script.{clip, ended_from, rest_from, ended_append, rest_append}
use Rattle.script_run.specs.Buffered.{HasNoFeed}

-- no more lines end than there are bytes
pub length-ended : (line xs : List ℕ) → length (ended_from line xs) ≤ length xs
length-ended line [] = omega arith
length-ended line (b ∷ xs) =
    let next = length-ended [] xs in
    let same = length-ended (line ++ b ∷ []) xs in
    elim (eqb b 10) as (λ c. length (cond c (clip line ∷ ended_from [] xs) (ended_from (line ++ b ∷ []) xs)) ≤ suc (length xs)) [ true ↦ omega arith | false ↦ omega arith ]

-- ---- the front of a line

take_front : (n : ℕ) (xs ys : List ℕ) → take n (xs ++ ys) ≡ take n (take n xs ++ ys)
take_front zero xs ys = refl
take_front (suc n) [] ys = refl
take_front (suc n) (x ∷ xs) ys = ap (λ l. x ∷ l) (take_front n xs ys)

pub clip_is : (line : List ℕ) → clip line ≡ take 65536 line
unfolding clip
clip_is line = refl

pub clip_nil : clip [] ≡ []
unfolding clip
clip_nil = refl

take_twice : (m n : ℕ) (xs : List ℕ) → take (min m n) xs ≡ take n (take m xs)
take_twice m n xs = ⊎_elim
    (λ below. let short : length (take m xs) ≤ n = omega (arith, length-take m xs) in ap (λ k. take k xs) (let e : min m n ≡ m = omega arith in e) ∙ sym (take_all n (take m xs) short))
    (λ above. ap (λ k. take k xs) (let e : min m n ≡ n = omega arith in e) ∙ sym (take-take n m xs above))
    (cases_lt m n)

pub clip_take : (m : ℕ) (xs : List ℕ) → take (min m 65536) xs ≡ clip (take m xs)
clip_take m xs = take_twice m 65536 xs ∙ sym (clip_is (take m xs))

pub clip_clip : (line : List ℕ) → clip (clip line) ≡ clip line
clip_clip line = clip_is (clip line) ∙ ap (take 65536) (clip_is line) ∙ take-take 65536 65536 line (omega arith) ∙ sym (clip_is line)

clip_more : (l m ys : List ℕ) → clip l ≡ clip m → clip (l ++ ys) ≡ clip (m ++ ys)
clip_more l m ys e =
    let front : take 65536 l ≡ take 65536 m = sym (clip_is l) ∙ e ∙ clip_is m in
    clip_is (l ++ ys) ∙ take_front 65536 l ys ∙ ap (λ k. take 65536 (k ++ ys)) front ∙ sym (take_front 65536 m ys) ∙ sym (clip_is (m ++ ys))

-- lines with the same front end alike
pub ended_alike : (l m ys : List ℕ) → clip l ≡ clip m → ended_from l ys ≡ ended_from m ys
ended_alike l m [] e = refl
ended_alike l m (b ∷ ys) e =
    let same = ended_alike (l ++ b ∷ []) (m ++ b ∷ []) ys (clip_more l m (b ∷ []) e) in
    elim (eqb b 10) as (λ c. cond c (clip l ∷ ended_from [] ys) (ended_from (l ++ b ∷ []) ys) ≡ cond c (clip m ∷ ended_from [] ys) (ended_from (m ++ b ∷ []) ys)) [
      | true ↦ ap (λ k. k ∷ ended_from [] ys) e
      | false ↦ same
    ]

pub rest_alike : (l m ys : List ℕ) → clip l ≡ clip m → clip (rest_from l ys) ≡ clip (rest_from m ys)
rest_alike l m [] e = e
rest_alike l m (b ∷ ys) e =
    let same = rest_alike (l ++ b ∷ []) (m ++ b ∷ []) ys (clip_more l m (b ∷ []) e) in
    elim (eqb b 10) as (λ c. clip (cond c (rest_from [] ys) (rest_from (l ++ b ∷ []) ys)) ≡ clip (cond c (rest_from [] ys) (rest_from (m ++ b ∷ []) ys))) [ true ↦ refl | false ↦ same ]

-- ---- bytes without a line feed

no_feed : (b : ℕ) → b ≢ 10 → eqb b 10 ≡ false
no_feed b h = ⊎_elim (λ yes. absurd (h yes.1)) (λ no. no.0) (eqb_tells b 10)

pub ended_none : (line xs : List ℕ) → HasNoFeed xs → ended_from line xs ≡ []
ended_none line [] h = refl
ended_none line (b ∷ xs) h = rw (no_feed b h.0) (ended_none (line ++ b ∷ []) xs h.1)

pub rest_none : (line xs : List ℕ) → HasNoFeed xs → rest_from line xs ≡ line ++ xs
rest_none line [] h = sym (append-nil line)
rest_none line (b ∷ xs) h = rw (no_feed b h.0) (rest_none (line ++ b ∷ []) xs h.1 ∙ append_assoc line (b ∷ []) xs)

-- a line feed ends the first line
pub ended_first : (xs ys : List ℕ) → HasNoFeed xs → ended_from [] (xs ++ 10 ∷ ys) ≡ clip xs ∷ ended_from [] ys
ended_first xs ys h = ended_append [] xs (10 ∷ ys) ∙ ap (λ l. l ++ ended_from (rest_from [] xs) (10 ∷ ys)) (ended_none [] xs h) ∙ ap (λ l. clip l ∷ ended_from [] ys) (rest_none [] xs h)

pub rest_first : (xs ys : List ℕ) → HasNoFeed xs → rest_from [] (xs ++ 10 ∷ ys) ≡ rest_from [] ys
rest_first xs ys h = rest_append [] xs (10 ∷ ys)
