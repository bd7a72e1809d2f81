-- parts of bytes that stay, and parts that were written
use Rattle.std.proofs.Common.{◌≡◌, ℕ, zero, suc, ◌+◌, ◌<◌, ◌≤◌, List, [], ◌∷◌, ◌++◌, length, take, drop, get_or, refl, sym, ◌∙◌, ap, arith, append_assoc}
use Rattle.std.specs.Prelude.{slice_index}
use Rattle.std.proofs.lemmas.List.{take_at, drop_at, take-take, drop-take, get_or-take, get_or-drop, get_or_at, length-take-le}
use Rattle.byte_fields.specs.Fields.{field_at}
use Rattle.disk_trait.specs.Spliced.{spliced}

-- a byte and a field of a front that two lists have in common
pub same_byte : (n : ℕ) (xs ys : List ℕ) (i : ℕ) → i < n → take n xs ≡ take n ys → slice_index xs i ≡ slice_index ys i
same_byte n xs ys i within same = sym (get_or-take n xs i 0 within) ∙ ap (λ (l : List ℕ). get_or l i 0) same ∙ get_or-take n ys i 0 within

pub same_field : (at n m : ℕ) (xs ys : List ℕ) → at + n ≤ m → take m xs ≡ take m ys → field_at xs at n ≡ field_at ys at n
same_field at n m xs ys within same =
    sym (drop-take at n xs)
    ∙ ap (drop at) (sym (take-take (at + n) m xs within) ∙ ap (take (at + n)) same ∙ take-take (at + n) m ys within)
    ∙ drop-take at n ys

pub same_front : (n m : ℕ) (xs ys : List ℕ) → n ≤ m → take m xs ≡ take m ys → take n xs ≡ take n ys
same_front n m xs ys within same = sym (take-take n m xs within) ∙ ap (take n) same ∙ take-take n m ys within

-- what a write puts there
pub spliced_field : (old : List ℕ) (at : ℕ) (bytes : List ℕ) → at + length bytes ≤ length old → field_at (spliced old at bytes) at (length bytes) ≡ bytes
spliced_field old at bytes fits =
    let rest = drop (at + length bytes) old in
    ap (λ (l : List ℕ). take (length bytes) (drop at l)) (append_assoc (take at old) bytes rest)
    ∙ ap (take (length bytes)) (drop_at (take at old) (bytes ++ rest) at (length-take-le at old (omega (arith, fits))))
    ∙ take_at bytes rest (length bytes) refl

pub spliced_byte : (old : List ℕ) (at x : ℕ) → at + 1 ≤ length old → slice_index (spliced old at (x ∷ [])) at ≡ x
spliced_byte old at x fits =
    ap (λ (l : List ℕ). get_or l at 0) (append_assoc (take at old) (x ∷ []) (drop (at + 1) old)) ∙ get_or_at (take at old) x (drop (at + 1) old) 0 at (length-take-le at old (omega (arith, fits)))

-- behind the first byte, where all else is the same
pub behind_first : (d c : List ℕ) (k : ℕ) → 1 ≤ k → drop 1 c ≡ drop 1 d → slice_index c k ≡ slice_index d k
behind_first d c zero some same = absurd (omega (arith, some))
behind_first d c (suc k) some same =
    let next : suc k ≡ 1 + k = omega arith in
    ap (λ (n : ℕ). get_or c n 0) next ∙ sym (get_or-drop 1 c k 0) ∙ ap (λ (l : List ℕ). get_or l k 0) same ∙ get_or-drop 1 d k 0 ∙ ap (λ (n : ℕ). get_or d n 0) (sym next)
