-- Lists that are filled up to a length, and counts of them.
use Rattle.std.proofs.Common.{◌≡◌, ℕ, suc, ◌+◌, ◌-◌, ◌<◌, ◌≤◌, Bool, false, cond, List, [], ◌∷◌, ◌++◌, length, set, get_or, refl, sym, ap, ⊎_elim, ◌∙◌, append_assoc, arith, length-append}
use Rattle.std.specs.Prelude.{replicate, count_by}
use Rattle.std.proofs.lemmas.Bool.{cases_lt}
use Rattle.std.proofs.lemmas.List.{append-nil, length-set, length-replicate, get_or-replicate, get_or_append_left, get_or-append_right, get_or_default, get_or_past, get_or-set_same, get_or-set_other, replicate_more, replicate-append-replicate, set-append_left}
use Rattle.std.proofs.lemmas.List.Elements.{All-replicate}
use Rattle.std.proofs.lemmas.List.Sums.{sum_by-append, sum_by-cons, sum_by-le}
use Rattle.page_map.specs.Filled.{filled}

pub get_or-filled : {X : Type 0} (rest : X) (count : ℕ) (xs : List X) (n : ℕ) → get_or (filled rest count xs) n rest ≡ get_or xs n rest
unfolding filled
get_or-filled {X} rest count xs n = ⊎_elim inside behind (cases_lt n (length xs))
  where
    m : ℕ
    m = count - length xs

    pads : (k : ℕ) → get_or (replicate m rest) k rest ≡ rest
    pads k = ⊎_elim (λ low. get_or-replicate m k rest rest low) (λ high. get_or_past (replicate m rest) k rest (omega (arith, high, length-replicate m rest))) (cases_lt k m)

    inside : n < length xs → get_or (xs ++ replicate m rest) n rest ≡ get_or xs n rest
    inside low = get_or_append_left xs (replicate m rest) rest n low

    behind : length xs ≤ n → get_or (xs ++ replicate m rest) n rest ≡ get_or xs n rest
    behind high = get_or-append_right xs (replicate m rest) (length xs) n rest refl high ∙ pads (n - length xs) ∙ sym (get_or_past xs n rest high)

pub length-filled : {X : Type 0} (rest : X) (count : ℕ) (xs : List X) → length (filled rest count xs) ≡ length xs + (count - length xs)
unfolding filled
length-filled rest count xs = length-append xs (replicate (count - length xs) rest) ∙ ap (λ (k : ℕ). length xs + k) (length-replicate (count - length xs) rest)

pub filled-nil : {X : Type 0} (rest : X) (count : ℕ) (xs : List X) → xs ≡ [] → filled rest count xs ≡ replicate count rest
unfolding filled
filled-nil {X} rest count xs none =
    let all : count - length xs ≡ count = omega (arith, ap (length {A = X}) none) in
    ap (λ (l : List X). l ++ replicate (count - length xs) rest) none ∙ ap (λ (k : ℕ). replicate k rest) all

-- a list that is long enough
pub filled_enough : {X : Type 0} (rest : X) (count : ℕ) (xs : List X) → count ≤ length xs → xs ≡ filled rest count xs
unfolding filled
filled_enough rest count xs long =
    let none : count - length xs ≡ 0 = omega (arith, long) in
    sym (ap (λ (m : ℕ). xs ++ replicate m rest) none ∙ append-nil xs)

-- one more behind the list
pub filled_more : {X : Type 0} (rest : X) (xs : List X) (n : ℕ) → length xs ≤ n → filled rest n xs ++ rest ∷ [] ≡ filled rest (n + 1) xs
unfolding filled
filled_more {X} rest xs n more =
    let m = n - length xs in
    let one : m + 1 ≡ n + 1 - length xs = omega (arith, more) in
    append_assoc xs (replicate m rest) (rest ∷ []) ∙ ap (λ (l : List X). xs ++ l) (replicate_more m rest) ∙ ap (λ (k : ℕ). xs ++ replicate k rest) one

pub filled-filled : {X : Type 0} (rest : X) (few count : ℕ) (xs : List X) → few ≤ count → filled rest count (filled rest few xs) ≡ filled rest count xs
unfolding filled
filled-filled {X} rest few count xs le =
    let a = few - length xs in
    let b = count - length (xs ++ replicate a rest) in
    let same : a + b ≡ count - length xs = omega (arith, le, length-append xs (replicate a rest), length-replicate a rest) in
    append_assoc xs (replicate a rest) (replicate b rest) ∙ ap (λ (l : List X). xs ++ l) (replicate-append-replicate a b rest ∙ ap (λ (k : ℕ). replicate k rest) same)

set-filled : {X : Type 0} (rest : X) (count : ℕ) (xs : List X) (n : ℕ) (x : X) → n < length xs → filled rest count (set xs n x) ≡ set (filled rest count xs) n x
unfolding filled
set-filled rest count xs n x there =
    ap (λ (k : ℕ). set xs n x ++ replicate (count - k) rest) (length-set xs n x) ∙ sym (set-append_left xs (replicate (count - length xs) rest) n x there)

-- an element of a list that is filled up to it

pub length-filled-set : {X : Type 0} (rest : X) (xs : List X) (at : ℕ) (x : X) → length (set (filled rest (at + 1) xs) at x) ≡ length xs + (at + 1 - length xs)
length-filled-set rest xs at x = length-set (filled rest (at + 1) xs) at x ∙ length-filled rest (at + 1) xs

pub filled-set : {X : Type 0} (rest : X) (count : ℕ) (xs : List X) (at : ℕ) (x : X) → at < count → filled rest count (set (filled rest (at + 1) xs) at x) ≡ set (filled rest count xs) at x
filled-set {X} rest count xs at x below =
    set-filled rest count (filled rest (at + 1) xs) at x (omega (arith, length-filled rest (at + 1) xs)) ∙ ap (λ (l : List X). set l at x) (filled-filled rest (at + 1) count xs (omega arith))

pub filled_set-same : {X : Type 0} (rest : X) (xs : List X) (at : ℕ) (x : X) → get_or (set (filled rest (at + 1) xs) at x) at rest ≡ x
filled_set-same rest xs at x = get_or-set_same (filled rest (at + 1) xs) at x rest (omega (arith, length-filled rest (at + 1) xs))

pub filled_set-other : {X : Type 0} (rest : X) (xs : List X) (at : ℕ) (x : X) (n : ℕ) → (n ≡ at → ⊥) → get_or (set (filled rest (at + 1) xs) at x) n rest ≡ get_or xs n rest
filled_set-other rest xs at x n differ = get_or-set_other (filled rest (at + 1) xs) at n x rest differ ∙ get_or-filled rest (at + 1) xs n

-- an element that is read of such a list
pub read-filled : {X : Type 0} (rest : X) (xs ys : List X) (at : ℕ) (x : X) → ys ≡ filled rest (at + 1) xs → x ≡ get_or ys at x → x ≡ get_or xs at rest
read-filled {X} rest xs ys at x is read =
    let long : length ys ≡ length xs + (at + 1 - length xs) = ap (length {A = X}) is ∙ length-filled rest (at + 1) xs in
    read ∙ get_or_default ys at x rest (omega arith) ∙ ap (λ (l : List X). get_or l at rest) is ∙ get_or-filled rest (at + 1) xs at

-- and one that is written
pub write-filled : {X : Type 0} (rest : X) (xs ys : List X) (at : ℕ) (x : X) → ys ≡ filled rest (at + 1) xs → get_or (set ys at x) at rest ≡ x
write-filled {X} rest xs ys at x is = ap (λ (l : List X). get_or (set l at x) at rest) is ∙ filled_set-same rest xs at x

-- counts

pub count-filled : {X : Type 0} (p : X → Bool) (rest : X) (count : ℕ) (xs : List X) → p rest ≡ false → count_by p (filled rest count xs) ≡ count_by p xs
unfolding filled
count-filled {X} p rest count xs none =
    let w : X → ℕ = λ x. cond (p x) 1 0 in
    let pad = replicate (count - length xs) rest in
    let free_weight : w rest ≡ 0 = ap (λ (b : Bool). cond b 1 0) none in
    let free : w rest ≤ 0 = omega arith in
    let most = sum_by-le w 0 pad (All-replicate (λ (x : X). w x ≤ 0) (count - length xs) rest free) in
    omega (arith, sum_by-append w xs pad, most)

pub count_alike : {X Y : Type 0} (p : X → Bool) (q : Y → Bool) (xs : List X) (ys : List Y) (d : X) (e : Y) → length xs ≡ length ys → ((n : ℕ) → n < length xs → p (get_or xs n d) ≡ q (get_or ys n e)) → count_by p xs ≡ count_by q ys
count_alike p q [] [] d e long agree = refl
count_alike p q [] (y ∷ ys) d e long agree = absurd (omega arith)
count_alike p q (x ∷ xs) [] d e long agree = absurd (omega arith)
count_alike {X} {Y} p q (x ∷ xs) (y ∷ ys) d e long agree =
    let first : p x ≡ q y = agree 0 (omega arith) in
    let rest = count_alike p q xs ys d e (omega arith) (λ n low. agree (suc n) (omega arith)) in
    sum_by-cons (λ (z : X). cond (p z) 1 0) x xs ∙ (λ i. cond (first i) 1 0 + rest i) ∙ sym (sum_by-cons (λ (z : Y). cond (q z) 1 0) y ys)
