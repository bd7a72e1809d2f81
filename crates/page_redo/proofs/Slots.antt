-- Slots that ascend, and pages without their rows.
use Rattle.std.proofs.Common.{◌≡◌, ℕ, ◌+◌, ◌*◌, ◌<◌, ◌≤◌, ◌&&◌, Bool, true, false, List, [], ◌∷◌, length, drop, set, get_or, refl, sym, ◌∙◌, arith}
use Rattle.std.specs.Prelude.{None, nat_le, nat_lt}
use Rattle.std.proofs.lemmas.Bool.{lt-ltb, le-leb}
use Rattle.page_layout.specs.PageContents.{Slot}
use Rattle.page_redo.specs.Redo.{are_ascending, dropped}

pub ascend_step : (least count high low : ℕ) (bytes rest : List ℕ) → 2 ≤ length bytes → high ≡ get_or bytes 0 0 → low ≡ get_or bytes 1 0 → rest ≡ drop 2 bytes → least ≤ high * 256 + low → high * 256 + low < count
    → are_ascending (high * 256 + low + 1) count rest ≡ are_ascending least count bytes
unfolding are_ascending
ascend_step least count high low [] rest long h l r from to = absurd (omega arith)
ascend_step least count high low (x ∷ []) rest long h l r from to = absurd (omega arith)
ascend_step least count high low (x ∷ y ∷ bytes) rest long h l r from to =
    (λ i. are_ascending (h i * 256 + l i + 1) count (r i))
    ∙ (λ i. (sym (le-leb least (x * 256 + y) (omega (arith, h, l, from))) i && sym (lt-ltb (x * 256 + y) count (omega (arith, h, l, to))) i) && are_ascending (x * 256 + y + 1) count bytes)

both : (a b c : Bool) → (a && b) && c ≡ true → (b ≡ true) × (c ≡ true)
both true true true e = (refl, refl)
both true true false e = absurd cc
both true false c e = absurd cc
both false b c e = absurd cc

pub ascend_rest : (least count : ℕ) (bytes : List ℕ) → 2 ≤ length bytes → are_ascending least count bytes ≡ true → are_ascending (get_or bytes 0 0 * 256 + get_or bytes 1 0 + 1) count (drop 2 bytes) ≡ true
unfolding are_ascending
ascend_rest least count [] long e = absurd (omega arith)
ascend_rest least count (x ∷ []) long e = absurd (omega arith)
ascend_rest least count (x ∷ y ∷ bytes) long e = (both (nat_le least (x * 256 + y)) (nat_lt (x * 256 + y) count) (are_ascending (x * 256 + y + 1) count bytes) e).1

pub dropped-rest : (slots : List Slot) (bytes : List ℕ) → 2 ≤ length bytes → dropped (set slots (get_or bytes 0 0 * 256 + get_or bytes 1 0) None) (drop 2 bytes) ≡ dropped slots bytes
unfolding dropped
dropped-rest slots [] long = absurd (omega arith)
dropped-rest slots (x ∷ []) long = absurd (omega arith)
dropped-rest slots (x ∷ y ∷ bytes) long = refl
