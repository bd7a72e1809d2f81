-- bytes that are written one behind the other
use Rattle.std.proofs.Common.{◌≡◌, ℕ, zero, suc, ◌+◌, ◌*◌, ◌≤◌, ◌<◌, ℤ, true, false, List, [], ◌∷◌, ◌++◌, length, take, drop, set, get_or, FitsSigned, refl, sym, ap, ◌∙◌, arith, append_assoc, length-append}
use Rattle.std.specs.Prelude.{int_lt}
use Rattle.std.specs.Int.{w64, cast_unsigned, cast_signed, bytes_high_first}
use Rattle.std.specs.List.{flat_map}
use Rattle.std.proofs.lemmas.Bool.{cond-true, cond-false, cond_both}
use Rattle.std.proofs.lemmas.Int.{to_z-of_z}
use Rattle.std.proofs.lemmas.List.{append-nil, take_at, drop_at, drop-drop, length-take-le, length-drop, set_split, take_more, flat_map_more}
use Rattle.byte_fields.specs.Fields.{put_at, length-number}
use Rattle.byte_fields.specs.Int8.{int8_bytes, length-int8}
use Rattle.opclass_multi.specs.declared.element.Element.{Element}
use Rattle.opclass_multi.specs.Elements.{weight, count_of}
use Rattle.opclass_multi.specs.Encoding.{element_bytes, size_of, elements_bytes, written_at}
use Rattle.std.proofs.lemmas.List.Sums.{sum_by-cons}

-- an interval and a point
pub interval_bytes : (e : Element) → int_lt e.least e.greatest ≡ true → element_bytes e ≡ 1 ∷ (int8_bytes e.least ++ int8_bytes e.greatest)
interval_bytes e wide = cond-true (int_lt e.least e.greatest) (1 ∷ (int8_bytes e.least ++ int8_bytes e.greatest)) (0 ∷ int8_bytes e.least) wide

pub point_bytes : (e : Element) → int_lt e.least e.greatest ≡ false → element_bytes e ≡ 0 ∷ int8_bytes e.least
point_bytes e narrow = cond-false (int_lt e.least e.greatest) (1 ∷ (int8_bytes e.least ++ int8_bytes e.greatest)) (0 ∷ int8_bytes e.least) narrow

pub interval_size : (e : Element) → int_lt e.least e.greatest ≡ true → size_of e ≡ 17
interval_size e wide = cond-true (int_lt e.least e.greatest) 17 9 wide

pub point_size : (e : Element) → int_lt e.least e.greatest ≡ false → size_of e ≡ 9
point_size e narrow = cond-false (int_lt e.least e.greatest) 17 9 narrow

pub by_width : (e : Element) (P : Type 0) → (int_lt e.least e.greatest ≡ true → P) → (int_lt e.least e.greatest ≡ false → P) → P
by_width e P wide narrow = cond_both (int_lt e.least e.greatest) zero zero (λ n. P) wide narrow

pub length-element : (e : Element) → length (element_bytes e) ≡ size_of e
length-element e =
    by_width e (length (element_bytes e) ≡ size_of e)
    (λ w. ap length (interval_bytes e w) ∙ ap suc (length-append (int8_bytes e.least) (int8_bytes e.greatest)) ∙ omega (arith, length-int8 e.least, length-int8 e.greatest, interval_size e w))
    (λ n. ap length (point_bytes e n) ∙ omega (arith, length-int8 e.least, point_size e n))

size_bound : (e : Element) → size_of e ≤ 9 * weight e
size_bound e =
    by_width e (size_of e ≤ 9 * weight e)
    (λ w. let counts : weight e ≡ 2 = cond-true (int_lt e.least e.greatest) 2 1 w in omega (arith, interval_size e w, counts))
    (λ n. let counts : weight e ≡ 1 = cond-false (int_lt e.least e.greatest) 2 1 n in omega (arith, point_size e n, counts))

-- the bytes of elements take no more than the limit allows
pub length-elements : (es : List Element) → length (flat_map element_bytes es) ≤ 9 * count_of es
length-elements [] = omega arith
length-elements (e ∷ es) =
    omega (arith, length-append (element_bytes e) (flat_map element_bytes es), length-element e, size_bound e, length-elements es, sum_by-cons weight e es)

-- a number of bytes, put
put_bytes : (out : List ℕ) (at n x : ℕ) → put_at out at n x ≡ written_at at (bytes_high_first n x) out
unfolding put_at written_at
put_bytes out at n x =
    append_assoc (take at out) (bytes_high_first n x) (drop (at + n) out)
    ∙ ap (λ k. take at out ++ (bytes_high_first n x ++ drop (at + k) out)) (sym (length-number n x))

put_int8 : (out : List ℕ) (at : ℕ) (z : ℤ) → FitsSigned w64 z → put_at out at 8 (cast_unsigned w64 (cast_signed w64 (cast_unsigned w64 z))) ≡ written_at at (int8_bytes z) out
unfolding int8_bytes
put_int8 out at z fits = put_bytes out at 8 (cast_unsigned w64 (cast_signed w64 (cast_unsigned w64 z))) ∙ ap (λ (y : ℤ). written_at at (bytes_high_first 8 (cast_unsigned w64 y)) out) (to_z-of_z w64 z fits)

set_byte : (out : List ℕ) (at b : ℕ) → at < length out → set out at b ≡ written_at at (b ∷ []) out
unfolding written_at
set_byte out at b within = let next : suc at ≡ at + 1 = omega arith in set_split out at b within ∙ ap (λ n. take at out ++ (b ∷ drop n out)) next

-- what is written behind what was written
pub written_on : (at next : ℕ) (bytes more out : List ℕ) → next ≡ at + length bytes → next ≤ length out → written_at next more (written_at at bytes out) ≡ written_at at (bytes ++ more) out
unfolding written_at
written_on at next bytes more out is within =
    let front : length (take at out ++ bytes) ≡ next = length-append (take at out) bytes ∙ omega (arith, length-take-le at out (omega arith)) in
    let whole : take at out ++ (bytes ++ drop (at + length bytes) out) ≡ (take at out ++ bytes) ++ drop (at + length bytes) out = sym (append_assoc (take at out) bytes (drop (at + length bytes) out)) in
    let rest = drop (at + length bytes) out in
    let before : take next (take at out ++ (bytes ++ rest)) ≡ take at out ++ bytes = ap (take next) whole ∙ take_at (take at out ++ bytes) rest next front in
    let after : drop (next + length more) (take at out ++ (bytes ++ rest)) ≡ drop (at + length (bytes ++ more)) out =
    ap (drop (next + length more)) whole
    ∙ sym (drop-drop (length more) next ((take at out ++ bytes) ++ rest))
    ∙ ap (drop (length more)) (drop_at (take at out ++ bytes) rest next front)
    ∙ drop-drop (length more) (at + length bytes) out
    ∙ ap (λ n. drop n out) (omega (arith, length-append bytes more)) in
    ap (λ (l : List ℕ). l ++ (more ++ drop (next + length more) (take at out ++ (bytes ++ rest)))) before
    ∙ ap (λ (l : List ℕ). (take at out ++ bytes) ++ (more ++ l)) after
    ∙ append_assoc (take at out) bytes (more ++ drop (at + length (bytes ++ more)) out)
    ∙ ap (λ (l : List ℕ). take at out ++ l) (sym (append_assoc bytes more (drop (at + length (bytes ++ more)) out)))

pub length-written : (at : ℕ) (bytes out : List ℕ) → at + length bytes ≤ length out → length (written_at at bytes out) ≡ length out
unfolding written_at
length-written at bytes out within =
    length-append (take at out) (bytes ++ drop (at + length bytes) out)
    ∙ omega (arith, length-take-le at out (omega arith), length-append bytes (drop (at + length bytes) out), length-drop (at + length bytes) out)

-- the code that writes an interval
pub interval_written : (e : Element) (at : ℕ) (out first second : List ℕ) → FitsSigned w64 e.least → FitsSigned w64 e.greatest → int_lt e.least e.greatest ≡ true → at + 17 ≤ length out
    → first ≡ put_at (set out at 1) (at + 1) 8 (cast_unsigned w64 (cast_signed w64 (cast_unsigned w64 e.least)))
    → second ≡ put_at first (at + 1 + 8) 8 (cast_unsigned w64 (cast_signed w64 (cast_unsigned w64 e.greatest)))
    → second ≡ written_at at (element_bytes e) out
interval_written e at out first second fits also wide within one two =
    let l = int8_bytes e.least in
    let g = int8_bytes e.greatest in
    let begun : first ≡ written_at at (1 ∷ l) out =
    one ∙ put_int8 (set out at 1) (at + 1) e.least fits ∙ ap (written_at (at + 1) l) (set_byte out at 1 (omega arith)) ∙ written_on at (at + 1) (1 ∷ []) l out refl (omega arith) in
    two ∙ put_int8 first (at + 1 + 8) e.greatest also ∙ ap (written_at (at + 1 + 8) g) begun
    ∙ written_on at (at + 1 + 8) (1 ∷ l) g out (omega (arith, length-int8 e.least)) (omega arith)
    ∙ ap (λ (bytes : List ℕ). written_at at bytes out) (sym (interval_bytes e wide))

-- and a point
pub point_written : (e : Element) (at : ℕ) (out first : List ℕ) → FitsSigned w64 e.least → int_lt e.least e.greatest ≡ false → at + 9 ≤ length out
    → first ≡ put_at (set out at 0) (at + 1) 8 (cast_unsigned w64 (cast_signed w64 (cast_unsigned w64 e.least)))
    → first ≡ written_at at (element_bytes e) out
point_written e at out first fits narrow within one =
    one ∙ put_int8 (set out at 0) (at + 1) e.least fits ∙ ap (written_at (at + 1) (int8_bytes e.least)) (set_byte out at 0 (omega arith))
    ∙ written_on at (at + 1) (0 ∷ []) (int8_bytes e.least) out refl (omega arith)
    ∙ ap (λ (bytes : List ℕ). written_at at bytes out) (sym (point_bytes e narrow))

-- the number of elements, written
pub number_written : (n : ℕ) (out first : List ℕ) → first ≡ put_at out 0 2 n → first ≡ written_at 0 (bytes_high_first 2 n ++ []) out
number_written n out first put = put ∙ put_bytes out 0 2 n ∙ ap (λ (bytes : List ℕ). written_at 0 bytes out) (sym (append-nil (bytes_high_first 2 n)))

-- one element more
pub element_more : (n i at : ℕ) (es : List Element) (e d : Element) (out before after : List ℕ) → i < length es → e ≡ get_or es i d
    → at ≡ 2 + length (flat_map element_bytes (take i es)) → at ≤ length out
    → before ≡ written_at 0 (bytes_high_first 2 n ++ flat_map element_bytes (take i es)) out
    → after ≡ written_at at (element_bytes e) before
    → after ≡ written_at 0 (bytes_high_first 2 n ++ flat_map element_bytes (take (i + 1) es)) out
element_more n i at es e d out before after below is place within was now =
    let number = bytes_high_first 2 n in
    let some = flat_map element_bytes (take i es) in
    now ∙ ap (written_at at (element_bytes e)) was
    ∙ written_on 0 at (number ++ some) (element_bytes e) out (omega (arith, length-append number some, length-number 2 n)) within
    ∙ ap (λ (bytes : List ℕ). written_at 0 bytes out) (flat_map_more element_bytes number (take i es) e ∙ ap (λ (all : List Element). number ++ flat_map element_bytes all) (taken i es e d below is))
  where
    taken : (i : ℕ) (es : List Element) (e d : Element) → i < length es → e ≡ get_or es i d → take i es ++ e ∷ [] ≡ take (i + 1) es
    taken i es e d below is = ap (λ (x : Element). take i es ++ x ∷ []) is ∙ sym (take_more es i d below)

-- where the next element begins
pub place_more : (i at next : ℕ) (es : List Element) (e d : Element) → i < length es → e ≡ get_or es i d → at ≡ 2 + length (flat_map element_bytes (take i es)) → next ≡ at + size_of e
    → next ≡ 2 + length (flat_map element_bytes (take (i + 1) es))
place_more i at next es e d below is place step =
    let some = flat_map element_bytes (take i es) in
    let whole : flat_map element_bytes (take (i + 1) es) ≡ some ++ element_bytes e =
    ap (flat_map element_bytes) (take_more es i d below ∙ ap (λ (x : Element). take i es ++ x ∷ []) (sym is)) ∙ sym (flat_map_more element_bytes [] (take i es) e) in
    omega (arith, ap length whole, length-append some (element_bytes e), length-element e)

-- all elements, written
pub all_written : (es : List Element) (out : List ℕ) → written_at 0 (elements_bytes es) out ≡ elements_bytes es ++ drop (length (elements_bytes es)) out
unfolding written_at
all_written es out = let size : 0 + length (elements_bytes es) ≡ length (elements_bytes es) = omega arith in ap (λ n. elements_bytes es ++ drop n out) size
