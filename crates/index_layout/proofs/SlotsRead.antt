-- The slots of a page are those that are read from its bytes.
use Rattle.std.proofs.Common.{◌≡◌, ℕ, zero, suc, ◌+◌, ◌-◌, ◌*◌, ◌<◌, ◌≤◌, ◌⊎◌, inl, inr, Bool, true, false, cond, eqb, List, [], ◌∷◌, ◌++◌, length, take, drop, get_or, refl, sym, ap, ◌∙◌, append_assoc, length-append, arith}
use Rattle.std.specs.Prelude.{None, Some, replicate}
use Rattle.std.specs.Int.{bytes_high_first}
use Rattle.std.proofs.lemmas.Bool.{ne_eqb}
use Rattle.std.proofs.lemmas.List.{append-nil, take_at, drop_at, drop-drop}
use Rattle.byte_fields.specs.Fields.{number_of, field_at}
use Rattle.index_layout.specs.IndexPages.{Slot, IsSlot, AreSlots, HasSlots, tuple_bytes, taken, directory_entry, directory, tuples, header, regular_bytes}
use Rattle.index_layout.specs.IndexReading.{number_at, slot_in, slots_in, slots_of, is_regular, end_from}
use Rattle.index_layout.proofs.SlotLists.{taken-is, length-entry, length-regular, two}

-- the first slot of a directory, where the page has its tuple
slot_again : (end : ℕ) (slot : Slot) (page front behind rest : List ℕ) → IsSlot slot → end < 65536 → length front + length (tuple_bytes slot) ≡ end → page ≡ front ++ (tuple_bytes slot ++ behind) → slot_in page (directory_entry end slot ++ rest) ≡ slot
unfolding number_of
slot_again end None page front behind rest is small at e = refl
slot_again end (Some tuple) page front behind rest is small at e =
    let bytes = directory_entry end (Some tuple) ++ rest in
    let size : number_at bytes 2 2 ≡ length tuple = two (length tuple) (omega arith) in
    let offset : number_at bytes 0 2 ≡ length front = two (end - length tuple) (omega arith) ∙ (let o : end - length tuple ≡ length front = omega arith in o) in
    let some : eqb (length tuple) 0 ≡ false = ne_eqb (length tuple) 0 (λ e. absurd (omega arith)) in
    let here : field_at page (length front) (length tuple) ≡ tuple =
    ap (λ (l : List ℕ). field_at l (length front) (length tuple)) e ∙ ap (take (length tuple)) (drop_at front (tuple ++ behind) (length front) refl) ∙ take_at tuple behind (length tuple) refl in
    (λ i. cond (eqb (size i) 0) None (Some (field_at page (offset i) (size i)))) ∙ (λ i. cond (some i) None (Some (here i)))

pub slots_again : (slots : List Slot) (end : ℕ) (page front behind rest : List ℕ) → AreSlots slots → end < 65536 → length front + length (tuples slots) ≡ end → page ≡ front ++ (tuples slots ++ behind)
    → slots_in page (length slots) (directory end slots ++ rest) ≡ slots
unfolding slots_in directory tuples
slots_again [] end page front behind rest are small at e = refl
slots_again (slot ∷ slots) end page front behind rest are small at e =
    let tuple = tuple_bytes slot in
    let entry = directory_entry end slot in
    let next = directory (end - length tuple) slots in
    let apart : page ≡ front ++ (tuples slots ++ (tuple ++ behind)) = e ∙ ap (λ (l : List ℕ). front ++ l) (append_assoc (tuples slots) tuple behind) in
    let before : page ≡ (front ++ tuples slots) ++ (tuple ++ behind) = apart ∙ sym (append_assoc front (tuples slots) (tuple ++ behind)) in
    let sizes = length-append (tuples slots) tuple in
    let fronts = length-append front (tuples slots) in
    let here = slot_again end slot page (front ++ tuples slots) behind (next ++ rest) are.0 small (omega arith) before in
    let after = slots_again slots (end - length tuple) page front (tuple ++ behind) rest are.1 (omega arith) (omega arith) apart in
    ap (λ (l : List ℕ). slot_in page l ∷ slots_in page (length slots) (drop 4 l)) (append_assoc entry next rest)
    ∙ (λ i. here i ∷ slots_in page (length slots) (drop_at entry (next ++ rest) 4 (length-entry end slot) i))
    ∙ ap (λ (l : List Slot). slot ∷ l) after

of_kind : (kind : ℕ) → (kind ≡ 5) ⊎ (kind ≡ 6) → is_regular kind ≡ true
of_kind kind (inl five) = ap is_regular five
of_kind kind (inr six) = ap is_regular six

-- a page has one list of slots
pub one_list : (kind : ℕ) (slots : List Slot) (page : List ℕ) → HasSlots kind slots page → slots ≡ slots_of page
unfolding slots_of regular_bytes number_of
one_list kind slots page has =
    let zeros = replicate {A = ℕ} (8160 - taken slots) 0 in
    let body = directory 8192 slots ++ (zeros ++ tuples slots) in
    let whole = regular_bytes kind slots in
    let room = has.fit.room in
    let count : number_of (bytes_high_first 2 (length slots)) ≡ length slots = two (length slots) (omega (arith, taken-is slots)) in
    let front = header kind (length slots) ++ (directory 8192 slots ++ zeros) in
    let split : whole ≡ front ++ (tuples slots ++ []) =
    ap (λ (l : List ℕ). header kind (length slots) ++ l) (sym (append_assoc (directory 8192 slots) zeros (tuples slots)))
    ∙ ap (λ (l : List ℕ). header kind (length slots) ++ ((directory 8192 slots ++ zeros) ++ l)) (sym (append-nil (tuples slots))) in
    let long : length front + length (tuples slots) ≡ 8192 = omega (arith, ap length split, length-append front (tuples slots ++ []), length-append (tuples slots) [], length-regular kind slots room) in
    sym (ap slots_of has.bytes
    ∙ ap (λ (t : Bool). cond t (slots_in whole (number_of (bytes_high_first 2 (length slots))) body) []) (of_kind kind has.of)
    ∙ ap (λ (n : ℕ). slots_in whole n body) count
    ∙ slots_again slots 8192 whole front [] (zeros ++ tuples slots) has.fit.are (omega arith) long split)

-- the entry of a slot in the directory

drop_four : (i : ℕ) (entry rest : List ℕ) → length entry ≡ 4 → drop (suc i * 4) (entry ++ rest) ≡ drop (i * 4) rest
drop_four i entry rest len =
    let more : suc i * 4 ≡ 4 + i * 4 = omega arith in
    ap (λ (k : ℕ). drop k (entry ++ rest)) more ∙ sym (drop-drop (i * 4) 4 (entry ++ rest)) ∙ ap (drop (i * 4)) (drop_at entry rest 4 len)

-- a slot that is read from its own four bytes
pub slot_read : (page : List ℕ) (n i : ℕ) (bytes : List ℕ) → i < n → get_or (slots_in page n bytes) i None ≡ slot_in page (drop (i * 4) bytes)
unfolding slots_in
slot_read page zero i bytes below = absurd (omega arith)
slot_read page (suc n) zero bytes below = ap (λ (k : ℕ). slot_in page (drop k bytes)) (let e : 0 ≡ 0 * 4 = omega arith in e)
slot_read page (suc n) (suc i) bytes below =
    slot_read page n i (drop 4 bytes) (omega arith) ∙ ap (slot_in page) (drop-drop (i * 4) 4 bytes ∙ ap (λ (k : ℕ). drop k bytes) (let e : 4 + i * 4 ≡ suc i * 4 = omega arith in e))

pub directory_at : (i : ℕ) (slots : List Slot) (end : ℕ) (rest : List ℕ) → i < length slots → (behind : List ℕ) × (drop (i * 4) (directory end slots ++ rest) ≡ directory_entry (end_from end i slots) (get_or slots i None) ++ behind)
unfolding directory end_from
directory_at i [] end rest below = absurd (omega arith)
directory_at zero (slot ∷ slots) end rest below =
    let next = directory (end - length (tuple_bytes slot)) slots in (
      next ++ rest,
      ap (λ (k : ℕ). drop k ((directory_entry end slot ++ next) ++ rest)) (let e : 0 * 4 ≡ 0 = omega arith in e) ∙ append_assoc (directory_entry end slot) next rest,
    )
directory_at (suc i) (slot ∷ slots) end rest below =
    let next = directory (end - length (tuple_bytes slot)) slots in
    let found = directory_at i slots (end - length (tuple_bytes slot)) rest (omega arith) in (
      found.0,
      ap (drop (suc i * 4)) (append_assoc (directory_entry end slot) next rest) ∙ drop_four i (directory_entry end slot) (next ++ rest) (length-entry end slot) ∙ found.1,
    )

-- where tuples end

-- no tuple begins below a floor above which all have room
pub end_room : (i : ℕ) (slots : List Slot) (floor end : ℕ) → floor + length (tuples slots) ≤ end → (floor + length (tuple_bytes (get_or slots i None)) ≤ end_from end i slots) × (end_from end i slots ≤ end)
unfolding tuples end_from
end_room zero [] floor end room = (omega arith, omega arith)
end_room (suc i) [] floor end room = (omega arith, omega arith)
end_room zero (slot ∷ slots) floor end room = (omega (arith, length-append (tuples slots) (tuple_bytes slot)), omega arith)
end_room (suc i) (slot ∷ slots) floor end room =
    let sizes = length-append (tuples slots) (tuple_bytes slot) in
    let rest = end_room i slots floor (end - length (tuple_bytes slot)) (omega arith) in
    (rest.0, omega (arith, rest.1))

pub end_more : (i : ℕ) (slots : List Slot) (end : ℕ) → end_from end (suc i) slots ≡ end_from end i slots - length (tuple_bytes (get_or slots i None))
unfolding end_from
end_more zero [] end = omega arith
end_more (suc i) [] end = omega arith
end_more zero (slot ∷ slots) end = refl
end_more (suc i) (slot ∷ slots) end = end_more i slots (end - length (tuple_bytes slot))

pub end_all : (slots : List Slot) (end : ℕ) → end_from end (length slots) slots ≡ end - length (tuples slots)
unfolding tuples end_from
end_all [] end = omega arith
end_all (slot ∷ slots) end = omega (arith, end_all slots (end - length (tuple_bytes slot)), length-append (tuples slots) (tuple_bytes slot))

pub end_first : (slots : List Slot) (end : ℕ) → end_from end 0 slots ≡ end
unfolding end_from
end_first slots end = refl

-- what the directory of a page says of a slot
pub record SlotAt (slots : List Slot) (page : List ℕ) (i end : ℕ) (slot : Slot) : Type 0 where
  pub size : number_of (field_at page (32 + i * 4 + 2) 2) ≡ length (tuple_bytes slot)
  pub free : slot ≡ None → number_of (field_at page (32 + i * 4) 2) ≡ 0
  pub offset : 0 < length (tuple_bytes slot) → number_of (field_at page (32 + i * 4) 2) ≡ end - length (tuple_bytes slot)
  pub room : 32 + 4 * length slots + length (tuple_bytes slot) ≤ end
  pub within : end ≤ 8192

by_slot : (slots : List Slot) (page : List ℕ) (i end : ℕ) (slot : Slot) (behind : List ℕ) → drop (32 + i * 4) page ≡ directory_entry end slot ++ behind → 32 + 4 * length slots + length (tuple_bytes slot) ≤ end → end ≤ 8192 → SlotAt slots page i end slot
unfolding number_of
by_slot slots page i end None behind here room within = record {
  size = ap (λ (l : List ℕ). number_of (take 2 l)) (sym (drop-drop 2 (32 + i * 4) page) ∙ ap (drop 2) here);
  free = λ e. ap (λ (l : List ℕ). number_of (take 2 l)) here;
  offset = λ some. absurd (omega arith);
  room = room;
  within = within;
}
by_slot slots page i end (Some tuple) behind here room within = record {
  size = ap (λ (l : List ℕ). number_of (take 2 l)) (sym (drop-drop 2 (32 + i * 4) page) ∙ ap (drop 2) here) ∙ two (length tuple) (omega arith);
  free = λ e. absurd cc;
  offset = λ some. ap (λ (l : List ℕ). number_of (take 2 l)) here ∙ two (end - length tuple) (omega arith);
  room = room;
  within = within;
}

pub slot_at : (kind : ℕ) (slots : List Slot) (page : List ℕ) (i : ℕ) → HasSlots kind slots page → i < length slots → SlotAt slots page i (end_from 8192 i slots) (get_or slots i None)
unfolding regular_bytes
slot_at kind slots page i has below =
    let rest = replicate {A = ℕ} (8160 - taken slots) 0 ++ tuples slots in
    let found = directory_at i slots 8192 rest below in
    let ends = end_room i slots (32 + 4 * length slots) 8192 (omega (arith, taken-is slots, has.fit.room)) in
    let here : drop (32 + i * 4) page ≡ directory_entry (end_from 8192 i slots) (get_or slots i None) ++ found.0 = sym (drop-drop (i * 4) 32 page) ∙ ap (λ (l : List ℕ). drop (i * 4) (drop 32 l)) has.bytes ∙ found.1 in
    by_slot slots page i (end_from 8192 i slots) (get_or slots i None) found.0 here ends.0 ends.1
