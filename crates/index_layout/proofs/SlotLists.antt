-- Slots on a page: what has no fault was written, and what was written has no fault.
use Rattle.std.proofs.Common.{◌≡◌, ℕ, zero, suc, ◌+◌, ◌-◌, ◌*◌, ◌<◌, ◌≤◌, Bool, true, false, not, cond, eqb, List, [], ◌∷◌, ◌++◌, length, take, drop, refl, sym, ap, subst, ◌∙◌, append_assoc, length-append, length-drop, arith}
use Rattle.std.specs.Prelude.{Option, None, Some, replicate, nat_le}
use Rattle.std.specs.Int.{bytes_high_first}
use Rattle.std.proofs.lemmas.Bool.{eqb-true, eqb-false, eq-eqb, ne_eqb, leb-true, le-leb}
use Rattle.std.proofs.lemmas.List.{append-nil, length-replicate, take_at, drop-drop, length-take-le}
use Rattle.byte_fields.specs.Fields.{AreBytes, number_of, bytes-number, number-bytes, field_at, length-field}
use Rattle.index_layout.specs.IndexPages.{Slot, AreSlots, IsLastUsed, tuple_bytes, taken, directory_entry, directory, tuples, regular_bytes}
use Rattle.index_layout.specs.IndexFaults.{first_of, shifted, fault_unless, zeros_fault, slot_fault, directory_fault}
use Rattle.index_layout.specs.IndexReading.{slot_in, slots_in}
use Rattle.index_layout.proofs.Faults.{first_none, holds-unless, shifted-none, zeros_take, zeros_pass}

-- sizes

pub length-entry : (end : ℕ) (slot : Slot) → length (directory_entry end slot) ≡ 4
length-entry end None = refl
length-entry end (Some tuple) = refl

pub length-directory : (end : ℕ) (slots : List Slot) → length (directory end slots) ≡ 4 * length slots
unfolding directory
length-directory end [] = refl
length-directory end (slot ∷ slots) =
    let next = end - length (tuple_bytes slot) in
    omega (arith, length-append (directory_entry end slot) (directory next slots), length-entry end slot, length-directory next slots)

pub taken-is : (slots : List Slot) → taken slots ≡ 4 * length slots + length (tuples slots)
unfolding taken tuples
taken-is [] = refl
taken-is (slot ∷ slots) = omega (arith, taken-is slots, length-append (tuples slots) (tuple_bytes slot))

pub length-regular : (kind : ℕ) (slots : List Slot) → taken slots ≤ 8160 → length (regular_bytes kind slots) ≡ 8192
unfolding regular_bytes
length-regular kind slots room =
    let zeros = replicate {A = ℕ} (8160 - taken slots) 0 in
    omega (arith, taken-is slots, length-append (directory 8192 slots) (zeros ++ tuples slots), length-append zeros (tuples slots), length-replicate {A = ℕ} (8160 - taken slots) 0, length-directory 8192 slots)

-- a slot has no fault exactly where it is free and not the last, or its tuple ends at its place behind the floor

pub free_passes : (floor end : ℕ) (last : Bool) → last ≡ false → slot_fault floor end last 0 0 ≡ None
free_passes floor end last e = ap (λ (b : Bool). first_of None (fault_unless (not b) 2)) e

pub tuple_passes : (floor end : ℕ) (last : Bool) (offset size : ℕ) → 0 < size → offset + size ≡ end → floor ≤ offset → slot_fault floor end last offset size ≡ None
tuple_passes floor end last offset size some ends behind =
    let a : eqb size 0 ≡ false = grind arith in
    let b : eqb (offset + size) end ≡ true = eq-eqb (offset + size) end ends in
    let c : nat_le floor offset ≡ true = le-leb floor offset behind in
    (λ i. cond (a i) (first_of (fault_unless (eqb offset 0) 0) (fault_unless (not last) 2)) (first_of (fault_unless (b i) 0) (fault_unless (c i) 2)))

pub data SlotTaken (floor end : ℕ) (last : Bool) (offset size : ℕ) : Type 0 where
  Free : size ≡ 0 → offset ≡ 0 → last ≡ false → SlotTaken floor end last offset size
  Used : 0 < size → offset + size ≡ end → floor ≤ offset → SlotTaken floor end last offset size

not-true : (b : Bool) → not b ≡ true → b ≡ false
not-true true e = absurd cc
not-true false e = refl

pub slot_takes : (floor end : ℕ) (last : Bool) (offset size : ℕ) → slot_fault floor end last offset size ≡ None → SlotTaken floor end last offset size
slot_takes floor end last offset size f = by (eqb size 0) refl f
  where
    by : (none : Bool) → eqb size 0 ≡ none → cond none (first_of (fault_unless (eqb offset 0) 0) (fault_unless (not last) 2)) (first_of (fault_unless (eqb (offset + size) end) 0) (fault_unless (nat_le floor offset) 2)) ≡ None → SlotTaken floor end last offset size
    by true e g =
        let parts = first_none (fault_unless (eqb offset 0) 0) (fault_unless (not last) 2) g in
        Free (eqb-true size 0 e) (eqb-true offset 0 (holds-unless _ 0 parts.0)) (not-true last (holds-unless _ 2 parts.1))
    by false e g =
        let parts = first_none (fault_unless (eqb (offset + size) end) 0) (fault_unless (nat_le floor offset) 2) g in
        let some : 0 < size = grind (arith, eqb-false size 0 e) in
        Used some (eqb-true (offset + size) end (holds-unless _ 0 parts.0)) (leb-true floor offset (holds-unless _ 2 parts.1))

-- numbers of two bytes

pub two : (x : ℕ) → x < 65536 → number_of (bytes_high_first 2 x) ≡ x
two x small = number-bytes 2 x small

none_last : (slots : List Slot) → IsLastUsed (None ∷ slots) → (0 < length slots) × IsLastUsed slots
none_last [] last = absurd last
none_last (slot ∷ slots) last = (omega arith, last)

rest_used : (tuple : List ℕ) (slots : List Slot) → IsLastUsed (Some tuple ∷ slots) → IsLastUsed slots
rest_used tuple [] last = tt
rest_used tuple (slot ∷ slots) last = last

-- slots and the zeros behind their directory have no fault
pub slots-pass : (slots : List Slot) (floor end zeros : ℕ) (behind : List ℕ) → AreSlots slots → IsLastUsed slots → end < 65536 → floor + length (tuples slots) ≤ end → zeros ≡ end - length (tuples slots) - floor
    → directory_fault floor end (length slots) (directory end slots ++ (replicate zeros 0 ++ behind)) ≡ None
unfolding directory_fault directory tuples number_of
slots-pass [] floor end zeros behind are last small room z =
    let n : end - floor ≡ zeros = omega arith in
    ap zeros_fault (ap (λ (k : ℕ). take k (replicate zeros 0 ++ behind)) n ∙ take_at (replicate zeros 0) behind zeros (length-replicate zeros 0)) ∙ zeros_pass zeros
slots-pass (None ∷ slots) floor end zeros behind are last small room z =
    let others = none_last slots last in
    let none : length (tuples slots ++ []) ≡ length (tuples slots) = ap length (append-nil (tuples slots)) in
    let next = directory (end - 0) slots ++ (replicate zeros 0 ++ behind) in
    ap (λ (o : Option ℕ). first_of o (shifted 4 (directory_fault floor (end - 0) (length slots) next))) (free_passes floor end (eqb (length slots) 0) (ne_eqb (length slots) 0 (λ e. absurd (omega (arith, others.0)))))
    ∙ ap (shifted 4) (slots-pass slots floor (end - 0) zeros behind are.1 others.1 (omega arith) (omega arith) (omega arith))
slots-pass (Some tuple ∷ slots) floor end zeros behind are last small room z =
    let long : length (tuples slots ++ tuple) ≡ length (tuples slots) + length tuple = length-append (tuples slots) tuple in
    let size : number_of (bytes_high_first 2 (length tuple)) ≡ length tuple = two (length tuple) (omega arith) in
    let offset : number_of (bytes_high_first 2 (end - length tuple)) ≡ end - length tuple = two (end - length tuple) (omega arith) in
    let next = directory (end - length tuple) slots ++ (replicate zeros 0 ++ behind) in
    (λ i. first_of (slot_fault floor end (eqb (length slots) 0) (offset i) (size i)) (shifted 4 (directory_fault floor (end - size i) (length slots) next)))
    ∙ ap (λ (o : Option ℕ). first_of o (shifted 4 (directory_fault floor (end - length tuple) (length slots) next))) (tuple_passes floor end (eqb (length slots) 0) (end - length tuple) (length tuple) are.0 (omega arith) (omega arith))
    ∙ ap (shifted 4) (slots-pass slots floor (end - length tuple) zeros behind are.1 (rest_used tuple slots last) (omega arith) (omega arith) (omega arith))

-- what has no fault is slots and zeros

pub length-in : (page : List ℕ) (n : ℕ) (bytes : List ℕ) → length (slots_in page n bytes) ≡ n
unfolding slots_in
length-in page zero bytes = refl
length-in page (suc n) bytes = ap suc (length-in page n (drop 4 bytes))

pub record SlotsTaken (floor end p : ℕ) (bytes : List ℕ) (slots : List Slot) : Type 0 where
  pub are : AreSlots slots
  pub last : IsLastUsed slots
  pub room : floor + length (tuples slots) ≤ end
  pub written : take (end - p) bytes ≡ directory end slots ++ (replicate (end - floor - length (tuples slots)) 0 ++ tuples slots)

take-four : (n a b c d : ℕ) (rest : List ℕ) → 4 ≤ n → take n (a ∷ b ∷ c ∷ d ∷ rest) ≡ a ∷ b ∷ c ∷ d ∷ take (n - 4) rest
take-four n a b c d rest le =
    let e : n ≡ suc (suc (suc (suc (n - 4)))) = omega arith in
    ap (λ (k : ℕ). take k (a ∷ b ∷ c ∷ d ∷ rest)) e

take-nil : (n : ℕ) → take {A = ℕ} n [] ≡ []
take-nil zero = refl
take-nil (suc n) = refl

pub take_more_of : (m n : ℕ) (xs : List ℕ) → take (m + n) xs ≡ take m xs ++ take n (drop m xs)
take_more_of zero n xs = ap (λ (k : ℕ). take k xs) (let e : 0 + n ≡ n = omega arith in e)
take_more_of (suc m) n [] = take-nil (suc m + n) ∙ sym (take-nil n)
take_more_of (suc m) n (x ∷ xs) =
    ap (λ (k : ℕ). take k (x ∷ xs)) (let e : suc m + n ≡ suc (m + n) = omega arith in e) ∙ ap (λ (l : List ℕ). x ∷ l) (take_more_of m n xs)

-- two bytes are those of their number
pub two_bytes : (a b : ℕ) → a < 256 → b < 256 → bytes_high_first 2 (number_of (a ∷ b ∷ [])) ≡ a ∷ b ∷ []
two_bytes a b x y = bytes-number (a ∷ b ∷ []) small
  where
    small : AreBytes (a ∷ b ∷ [])
    small zero = x
    small (suc zero) = y
    small (suc (suc i)) = omega arith

-- the slots behind a free one, and behind one with a tuple

last_more : (slots : List Slot) → 0 < length slots → IsLastUsed slots → IsLastUsed (None ∷ slots)
last_more [] some last = absurd (omega arith)
last_more (slot ∷ slots) some last = last

last_used : (tuple : List ℕ) (slots : List Slot) → IsLastUsed slots → IsLastUsed (Some tuple ∷ slots)
last_used tuple [] last = tt
last_used tuple (slot ∷ slots) last = last

free_step : (floor end p a b c d : ℕ) (rest : List ℕ) (slots : List Slot) → a < 256 → b < 256 → c < 256 → d < 256 → number_of (c ∷ d ∷ []) ≡ 0 → number_of (a ∷ b ∷ []) ≡ 0 → 0 < length slots → p + 4 ≤ floor
    → SlotsTaken floor end (p + 4) rest slots → SlotsTaken floor end p (a ∷ b ∷ c ∷ d ∷ rest) (None ∷ slots)
unfolding directory tuples
free_step floor end p a b c d rest slots sa sb sc sd size offset some behind ih =
    let same : tuples slots ++ [] ≡ tuples slots = append-nil (tuples slots) in
    let len : length (tuples slots ++ []) ≡ length (tuples slots) = ap length same in
    let first : a ∷ b ∷ [] ≡ 0 ∷ 0 ∷ [] = sym (two_bytes a b sa sb) ∙ ap (bytes_high_first 2) offset in
    let second : c ∷ d ∷ [] ≡ 0 ∷ 0 ∷ [] = sym (two_bytes c d sc sd) ∙ ap (bytes_high_first 2) size in
    let left : end - p - 4 ≡ end - (p + 4) = omega arith in
    let zeros : end - floor - length (tuples slots) ≡ end - floor - length (tuples slots ++ []) = omega arith in
    let ends : end ≡ end - 0 = omega arith in
    record {
      are = (tt, ih.are);
      last = last_more slots some ih.last;
      room = omega (arith, ih.room);
      written =
          take-four (end - p) a b c d rest (omega (arith, ih.room))
          ∙ (λ i. first i ++ (second i ++ take (left i) rest))
          ∙ ap (λ (l : List ℕ). 0 ∷ 0 ∷ 0 ∷ 0 ∷ l) (ih.written ∙ (λ i. directory (ends i) slots ++ (replicate (zeros i) 0 ++ sym same i)));
    }

used_step : (floor end p a b c d : ℕ) (page rest : List ℕ) (slots : List Slot) → a < 256 → b < 256 → c < 256 → d < 256 → 0 < number_of (c ∷ d ∷ []) → number_of (a ∷ b ∷ []) + number_of (c ∷ d ∷ []) ≡ end
    → p + 4 ≤ floor → end ≤ length page → rest ≡ drop (p + 4) page → SlotsTaken floor (end - number_of (c ∷ d ∷ [])) (p + 4) rest slots
    → SlotsTaken floor end p (a ∷ b ∷ c ∷ d ∷ rest) (Some (field_at page (number_of (a ∷ b ∷ [])) (number_of (c ∷ d ∷ []))) ∷ slots)
unfolding directory tuples
used_step floor end p a b c d page rest slots sa sb sc sd some ends behind within is ih =
    let offset = number_of (a ∷ b ∷ []) in
    let size = number_of (c ∷ d ∷ []) in
    let tuple = field_at page offset size in
    let long : length tuple ≡ size = length-field page offset size (omega arith) in
    let all : length (tuples slots ++ tuple) ≡ length (tuples slots) + length tuple = length-append (tuples slots) tuple in
    let zeros = end - size - floor - length (tuples slots) in
    let same_zeros : zeros ≡ end - floor - length (tuples slots ++ tuple) = omega arith in
    let m = end - size - (p + 4) in
    let left : end - p - 4 ≡ m + size = omega (arith, ih.room) in
    let at : p + 4 + m ≡ offset = omega (arith, ih.room) in
    let there : drop m rest ≡ drop offset page = ap (drop m) is ∙ drop-drop m (p + 4) page ∙ ap (λ (k : ℕ). drop k page) at in
    let first : a ∷ b ∷ [] ≡ bytes_high_first 2 (end - length tuple) = sym (two_bytes a b sa sb) ∙ ap (bytes_high_first 2) (let o : offset ≡ end - length tuple = omega arith in o) in
    let second : c ∷ d ∷ [] ≡ bytes_high_first 2 (length tuple) = sym (two_bytes c d sc sd) ∙ ap (bytes_high_first 2) (sym long) in
    let next : end - size ≡ end - length tuple = omega arith in
    let behind_them : take (end - p - 4) rest ≡ directory (end - length tuple) slots ++ (replicate (end - floor - length (tuples slots ++ tuple)) 0 ++ (tuples slots ++ tuple)) =
    ap (λ (k : ℕ). take k rest) left
    ∙ take_more_of m size rest
    ∙ (λ i. ih.written i ++ take size (there i))
    ∙ append_assoc (directory (end - size) slots) (replicate zeros 0 ++ tuples slots) tuple
    ∙ ap (λ (l : List ℕ). directory (end - size) slots ++ l) (append_assoc (replicate zeros 0) (tuples slots) tuple)
    ∙ (λ i. directory (next i) slots ++ (replicate (same_zeros i) 0 ++ (tuples slots ++ tuple))) in
    record {
      are = (omega arith, ih.are);
      last = last_used tuple slots ih.last;
      room = omega (arith, ih.room);
      written = take-four (end - p) a b c d rest (omega (arith, ih.room)) ∙ (λ i. first i ++ (second i ++ behind_them i));
    }

room_next : (floor end : ℕ) (last : Bool) (offset size : ℕ) → SlotTaken floor end last offset size → floor ≤ end → floor ≤ end - size
room_next floor end last offset size (Free none at before) le = omega arith
room_next floor end last offset size (Used some ends behind) le = omega arith

-- a slot in front of others
slots_step : (n floor end p a b c d : ℕ) (page rest : List ℕ) → a < 256 → b < 256 → c < 256 → d < 256 → p + 4 ≤ floor → end ≤ length page → rest ≡ drop (p + 4) page
    → SlotTaken floor end (eqb n 0) (number_of (a ∷ b ∷ [])) (number_of (c ∷ d ∷ [])) → SlotsTaken floor (end - number_of (c ∷ d ∷ [])) (p + 4) rest (slots_in page n rest)
    → SlotsTaken floor end p (a ∷ b ∷ c ∷ d ∷ rest) (slot_in page (a ∷ b ∷ c ∷ d ∷ rest) ∷ slots_in page n rest)
slots_step n floor end p a b c d page rest sa sb sc sd behind within is (Free size offset before) ih =
    let others = slots_in page n rest in
    let full = Some (field_at page (number_of (a ∷ b ∷ [])) (number_of (c ∷ d ∷ []))) in
    let none : slot_in page (a ∷ b ∷ c ∷ d ∷ rest) ≡ None = ap (λ (t : Bool). cond t None full) (eq-eqb (number_of (c ∷ d ∷ [])) 0 size) in
    let ends : end - number_of (c ∷ d ∷ []) ≡ end = omega arith in
    let more : 0 < length others = grind (arith, eqb-false n 0 before, length-in page n rest) in
    subst (λ (slot : Slot). SlotsTaken floor end p (a ∷ b ∷ c ∷ d ∷ rest) (slot ∷ others)) (sym none)
    (free_step floor end p a b c d rest others sa sb sc sd size offset more behind (subst (λ (k : ℕ). SlotsTaken floor k (p + 4) rest others) ends ih))
slots_step n floor end p a b c d page rest sa sb sc sd behind within is (Used some ends over) ih =
    let others = slots_in page n rest in
    let full = Some (field_at page (number_of (a ∷ b ∷ [])) (number_of (c ∷ d ∷ []))) in
    let used : slot_in page (a ∷ b ∷ c ∷ d ∷ rest) ≡ full = ap (λ (t : Bool). cond t None full) (ne_eqb (number_of (c ∷ d ∷ [])) 0 (λ e. absurd (omega arith))) in
    subst (λ (slot : Slot). SlotsTaken floor end p (a ∷ b ∷ c ∷ d ∷ rest) (slot ∷ others)) (sym used)
    (used_step floor end p a b c d page rest others sa sb sc sd some ends behind within is ih)

pub slots-take : (n floor end p : ℕ) (page bytes : List ℕ) → AreBytes bytes → bytes ≡ drop p page → floor ≡ p + n * 4 → floor ≤ end → end ≤ length page → directory_fault floor end n bytes ≡ None
    → SlotsTaken floor end p bytes (slots_in page n bytes)
unfolding directory_fault slots_in directory tuples
slots-take zero floor end p page bytes small is at room within f =
    let width : end - p ≡ end - floor = omega arith in
    let long : length (take (end - floor) bytes) ≡ end - floor - 0 = omega (arith, length-take-le (end - floor) bytes (omega (arith, ap length is, length-drop p page))) in
    record {
      are = tt;
      last = tt;
      room = omega arith;
      written = ap (λ (k : ℕ). take k bytes) width ∙ zeros_take (take (end - floor) bytes) f ∙ ap (λ (k : ℕ). replicate k 0) long ∙ sym (append-nil (replicate (end - floor - 0) 0));
    }
slots-take (suc n) floor end p page [] small is at room within f = absurd (omega (arith, ap length is, length-drop p page))
slots-take (suc n) floor end p page (a ∷ []) small is at room within f = absurd (omega (arith, ap length is, length-drop p page))
slots-take (suc n) floor end p page (a ∷ b ∷ []) small is at room within f = absurd (omega (arith, ap length is, length-drop p page))
slots-take (suc n) floor end p page (a ∷ b ∷ c ∷ []) small is at room within f = absurd (omega (arith, ap length is, length-drop p page))
slots-take (suc n) floor end p page (a ∷ b ∷ c ∷ d ∷ rest) small is at room within f =
    let offset = number_of (a ∷ b ∷ []) in
    let size = number_of (c ∷ d ∷ []) in
    let parts = first_none (slot_fault floor end (eqb n 0) offset size) (shifted 4 (directory_fault floor (end - size) n rest)) f in
    let slot = slot_takes floor end (eqb n 0) offset size parts.0 in
    let next : floor ≡ p + 4 + n * 4 = omega arith in
    let after : rest ≡ drop (p + 4) page = ap (drop 4) is ∙ drop-drop 4 p page in
    slots_step n floor end p a b c d page rest (small 0) (small 1) (small 2) (small 3) (omega arith) within after slot
    (slots-take n floor (end - size) (p + 4) page rest (λ i. small (suc (suc (suc (suc i))))) after next (room_next floor end (eqb n 0) offset size slot room) (omega arith) (shifted-none 4 _ parts.1))
