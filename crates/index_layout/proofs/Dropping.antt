-- Slots that ascend, and slots without some of their tuples; which slots have room for a tuple.
use Rattle.std.proofs.Common.{◌≡◌, ℕ, zero, suc, ◌+◌, ◌*◌, ◌<◌, ◌≤◌, inl, inr, ◌&&◌, Bool, true, false, List, [], ◌∷◌, length, drop, set, get_or, refl, sym, ap, ◌∙◌, arith}
use Rattle.std.specs.Prelude.{None, Some, nat_le, nat_lt, slice_get}
use Rattle.std.proofs.lemmas.Bool.{lt-ltb, le-leb, ltb-true}
use Rattle.std.proofs.lemmas.Option.{slice_get_within, get_or_from_slice_get}
use Rattle.std.proofs.lemmas.List.{length-set}
use Rattle.index_layout.specs.IndexPages.{Slot, tuple_bytes}
use Rattle.index_layout.specs.IndexReading.{free_of}
use Rattle.index_layout.specs.IndexWrites.{are_ascending, dropped, IsRoom, IsRoomInPlace}

pub ascend_step : (least count high low : ℕ) (bytes rest : List ℕ) → 2 ≤ length bytes → high ≡ get_or bytes 0 0 → low ≡ get_or bytes 1 0 → rest ≡ drop 2 bytes → least ≤ high * 256 + low → high * 256 + low < count
    → are_ascending (high * 256 + low + 1) count rest ≡ are_ascending least count bytes
unfolding are_ascending
ascend_step least count high low [] rest long h l r from to = absurd (omega arith)
ascend_step least count high low (x ∷ []) rest long h l r from to = absurd (omega arith)
ascend_step least count high low (x ∷ y ∷ bytes) rest long h l r from to =
    (λ i. are_ascending (h i * 256 + l i + 1) count (r i))
    ∙ (λ i. (sym (le-leb least (x * 256 + y) (omega (arith, h, l, from))) i && sym (lt-ltb (x * 256 + y) count (omega (arith, h, l, to))) i) && are_ascending (x * 256 + y + 1) count bytes)

all_of : (a b c : Bool) → (a && b) && c ≡ true → (a ≡ true) × (b ≡ true) × (c ≡ true)
all_of true true true e = (refl, refl, refl)
all_of true true false e = absurd cc
all_of true false c e = absurd cc
all_of false b c e = absurd cc

-- the first slot is below the count, and the others ascend from behind it
pub ascend_first : (least count : ℕ) (bytes : List ℕ) → 2 ≤ length bytes → are_ascending least count bytes ≡ true
    → (get_or bytes 0 0 * 256 + get_or bytes 1 0 < count) × (are_ascending (get_or bytes 0 0 * 256 + get_or bytes 1 0 + 1) count (drop 2 bytes) ≡ true)
unfolding are_ascending
ascend_first least count [] long e = absurd (omega arith)
ascend_first least count (x ∷ []) long e = absurd (omega arith)
ascend_first least count (x ∷ y ∷ bytes) long e =
    let parts = all_of (nat_le least (x * 256 + y)) (nat_lt (x * 256 + y) count) (are_ascending (x * 256 + y + 1) count bytes) e in
    (ltb-true (x * 256 + y) count parts.1, parts.2)

pub dropped-rest : (slots : List Slot) (bytes : List ℕ) → 2 ≤ length bytes → dropped (set slots (get_or bytes 0 0 * 256 + get_or bytes 1 0) None) (drop 2 bytes) ≡ dropped slots bytes
unfolding dropped
dropped-rest slots [] long = absurd (omega arith)
dropped-rest slots (x ∷ []) long = absurd (omega arith)
dropped-rest slots (x ∷ y ∷ bytes) long = refl

pub dropped-short : (slots : List Slot) (bytes : List ℕ) → length bytes < 2 → slots ≡ dropped slots bytes
unfolding dropped
dropped-short slots [] short = refl
dropped-short slots (x ∷ []) short = refl
dropped-short slots (x ∷ y ∷ bytes) short = absurd (omega arith)

pub length-dropped : (slots : List Slot) (bytes : List ℕ) → length (dropped slots bytes) ≡ length slots
unfolding dropped
length-dropped slots [] = refl
length-dropped slots (x ∷ []) = refl
length-dropped slots (x ∷ y ∷ bytes) = length-dropped (set slots (x * 256 + y) None) bytes ∙ length-set slots (x * 256 + y) None

-- room

pub room_next : (slots : List Slot) (n size : ℕ) → length slots ≤ n → IsRoom slots n size → (n ≡ length slots) × (size + 4 ≤ free_of slots)
room_next slots n size past (inl free) = absurd (omega (arith, slice_get_within slots n None free.0))
room_next slots n size past (inr next) = next

-- a slot in whose place a tuple has room is there
pub in_place : (slots : List Slot) (n size : ℕ) → IsRoomInPlace slots n size → (n < length slots) × (size ≤ free_of slots + length (tuple_bytes (get_or slots n None)))
in_place slots n size (tuple, there, room) =
    let here : get_or slots n None ≡ Some tuple = get_or_from_slice_get slots n (Some tuple) None there in
    (slice_get_within slots n (Some tuple) there, omega (arith, room, ap length (ap tuple_bytes here)))

-- what stands at a slot's number
slice_at : (slots : List Slot) (n : ℕ) → n < length slots → slice_get slots n ≡ Some (get_or slots n None)
slice_at [] n below = absurd (omega arith)
slice_at (slot ∷ slots) zero below = refl
slice_at (slot ∷ slots) (suc n) below = slice_at slots n (omega arith)

pub free_there : (slots : List Slot) (n : ℕ) → n < length slots → get_or slots n None ≡ None → slice_get slots n ≡ Some None
free_there slots n below free = slice_at slots n below ∙ ap Some free
