-- What a page of an index has, by what its bytes say.
use Rattle.std.proofs.Common.{◌≡◌, ℕ, zero, suc, ◌+◌, ◌-◌, ◌*◌, ◌<◌, ◌≤◌, ◌⊎◌, inl, inr, Bool, true, false, cond, eqb, List, [], ◌∷◌, ◌++◌, length, take, drop, get_or, refl, sym, ap, subst, ◌∙◌, arith}
use Rattle.std.specs.Prelude.{Option, None, Some, replicate}
use Rattle.std.specs.Int.{bytes_high_first}
use Rattle.std.proofs.lemmas.Bool.{eq-eqb, ne_eqb}
use Rattle.std.proofs.lemmas.List.{length-replicate, drop-drop, drop_more, drop_all, get_or_past}
use Rattle.block_model.specs.declared.place.Spot.{Spot}
use Rattle.byte_fields.specs.Fields.{number_of, field_at, number-bytes}
use Rattle.index_layout.specs.IndexPages.{Slot, IsSlot, AreSlots, IsLastUsed, HasSlots, IsRegular, IsMeta, IsMap, IsIndexPage, Unstarted, Meta, Map, Regular, tuple_bytes, taken, tuples, header, regular_bytes, meta_bytes, map_bytes, entries_bytes}
use Rattle.index_layout.specs.IndexReading.{number_at, is_regular, slots_in, slots_of, entries_in, entries_of, map_pages_of, end_from, free_of, free_slot_of}
use Rattle.index_layout.proofs.SlotLists.{taken-is, length-in, length-regular}
use Rattle.index_layout.proofs.SlotsRead.{one_list, slot_read, slot_at, end_all, end_more}
use Rattle.index_layout.proofs.Entries.{entries_again, entry_read, length-entries}

-- how many bytes a page has

length-meta : (pages z : ℕ) → length (header 3 0 ++ (bytes_high_first 4 pages ++ replicate z 0)) ≡ 36 + z
length-meta pages z = omega (arith, length-replicate {A = ℕ} z 0)

meta_long : (pages : ℕ) (page : List ℕ) → page ≡ meta_bytes pages → length page ≡ 8192
unfolding meta_bytes
meta_long pages page e = ap length e ∙ length-meta pages (8160 - 4)

map_long : (entries : List (Option Spot)) (page : List ℕ) → length entries ≡ 1020 → page ≡ map_bytes entries → length page ≡ 8192
unfolding map_bytes
map_long entries page counted e = ap length e ∙ omega (arith, length-entries entries)

pub length-page : (page : List ℕ) (n : ℕ) → n ≡ 8192 → IsIndexPage page → length page ≡ 8192
length-page page n is (Unstarted zeros) = ap length (zeros ∙ ap (λ (k : ℕ). replicate k 0) (sym is)) ∙ length-replicate n 0 ∙ is
length-page page n is (Meta pages meta) = meta_long pages page meta.bytes
length-page page n is (Map entries map) = map_long entries page map.counted map.bytes
length-page page n is (Regular kind slots regular) = ap length regular.has.bytes ∙ length-regular kind slots regular.has.fit.room

-- which page has slots

pub slots_none : (page : List ℕ) → is_regular (get_or page 0 0) ≡ false → slots_of page ≡ []
unfolding slots_of
slots_none page e = ap (λ (t : Bool). cond t (slots_in page (number_at page 2 2) (drop 32 page)) []) e

pub slots_some : (page : List ℕ) → is_regular (get_or page 0 0) ≡ true → slots_of page ≡ slots_in page (number_at page 2 2) (drop 32 page)
unfolding slots_of
slots_some page e = ap (λ (t : Bool). cond t (slots_in page (number_at page 2 2) (drop 32 page)) []) e

pub front_zero : (n : ℕ) → get_or {A = ℕ} (replicate n 0) 0 0 ≡ 0
front_zero zero = refl
front_zero (suc n) = refl

pub front_meta : (pages : ℕ) → get_or (meta_bytes pages) 0 0 ≡ 3
unfolding meta_bytes
front_meta pages = refl

pub front_map : (entries : List (Option Spot)) → get_or (map_bytes entries) 0 0 ≡ 4
unfolding map_bytes
front_map entries = refl

pub front_regular : (kind : ℕ) (slots : List Slot) → get_or (regular_bytes kind slots) 0 0 ≡ kind
unfolding regular_bytes
front_regular kind slots = refl

pub regular_front : (kind : ℕ) (slots : List Slot) (page : List ℕ) → HasSlots kind slots page → get_or page 0 0 ≡ kind
regular_front kind slots page has = ap (λ (l : List ℕ). get_or l 0 0) has.bytes ∙ front_regular kind slots

-- slots that a page has are read
pub has_read : (kind : ℕ) (slots : List Slot) (page : List ℕ) → HasSlots kind slots page → HasSlots (get_or page 0 0) (slots_of page) page
has_read kind slots page has =
    let own = subst (λ (k : ℕ). HasSlots k slots page) (sym (regular_front kind slots page has)) has in
    subst (λ (s : List Slot). HasSlots (get_or page 0 0) s page) (one_list kind slots page has) own

other_kind : (page : List ℕ) (kind : ℕ) → get_or page 0 0 ≡ kind → is_regular kind ≡ false → is_regular (get_or page 0 0) ≡ true → ⊥
other_kind page kind front other is = let same : false ≡ true = sym other ∙ ap is_regular (sym front) ∙ is in cc

-- a page of tuples has the slots that are read
pub regular_of : (page : List ℕ) (n : ℕ) → n ≡ 8192 → IsIndexPage page → is_regular (get_or page 0 0) ≡ true → IsRegular (get_or page 0 0) (slots_of page) page
regular_of page n is (Unstarted zeros) some = absurd (other_kind page 0 (ap (λ (l : List ℕ). get_or l 0 0) (zeros ∙ ap (λ (k : ℕ). replicate k 0) (sym is)) ∙ front_zero n) refl some)
regular_of page n is (Meta pages meta) some = absurd (other_kind page 3 (ap (λ (l : List ℕ). get_or l 0 0) meta.bytes ∙ front_meta pages) refl some)
regular_of page n is (Map entries map) some = absurd (other_kind page 4 (ap (λ (l : List ℕ). get_or l 0 0) map.bytes ∙ front_map entries) refl some)
regular_of page n is (Regular kind slots regular) some = record { has = has_read kind slots page regular.has; last = subst IsLastUsed (one_list kind slots page regular.has) regular.last }

-- and so has a page with a slot
pub slots_there : (page : List ℕ) → 0 < length (slots_of page) → is_regular (get_or page 0 0) ≡ true
slots_there page some = by (is_regular (get_or page 0 0)) refl
  where
    by : (t : Bool) → is_regular (get_or page 0 0) ≡ t → is_regular (get_or page 0 0) ≡ true
    by true e = e
    by false e = let none = ap length (slots_none page e) in absurd (omega (arith, none))

-- how many slots there are
pub count_read : (page : List ℕ) → is_regular (get_or page 0 0) ≡ true → number_at page 2 2 ≡ length (slots_of page)
count_read page e = sym (ap length (slots_some page e) ∙ length-in page (number_at page 2 2) (drop 32 page))

pub few_slots : (kind : ℕ) (slots : List Slot) (page : List ℕ) → HasSlots kind slots page → 32 + 4 * length slots ≤ 8192
few_slots kind slots page has = omega (arith, taken-is slots, has.fit.room)

-- one slot

pub are_at : (slots : List Slot) (i : ℕ) → AreSlots slots → IsSlot (get_or slots i None)
are_at [] i are = tt
are_at (slot ∷ slots) zero are = are.0
are_at (slot ∷ slots) (suc i) are = are_at slots i are.1

empty_none : (slot : Slot) → IsSlot slot → length (tuple_bytes slot) ≡ 0 → slot ≡ None
empty_none None is e = refl
empty_none (Some tuple) is e = absurd (omega arith)

pub free_at : (kind : ℕ) (slots : List Slot) (page : List ℕ) (i : ℕ) → HasSlots kind slots page → length (tuple_bytes (get_or slots i None)) ≡ 0 → get_or slots i None ≡ None
free_at kind slots page i has e = empty_none (get_or slots i None) (are_at slots i has.fit.are) e

regular_by : (kind : ℕ) → (kind ≡ 5) ⊎ (kind ≡ 6) → is_regular kind ≡ true
regular_by kind (inl five) = ap is_regular five
regular_by kind (inr six) = ap is_regular six

-- the bytes of a tuple stand at its offset
pub tuple_read : (page : List ℕ) (i at from size : ℕ) → HasSlots (get_or page 0 0) (slots_of page) page → i < length (slots_of page) → at ≡ 32 + i * 4 → 0 < size → size ≡ number_of (field_at page (at + 2) 2) → from ≡ number_of (field_at page at 2)
    → Some (field_at page from size) ≡ get_or (slots_of page) i None
tuple_read page i at from size has below place some se fe =
    let kind = regular_by (get_or page 0 0) has.of in
    let bytes = drop (i * 4) (drop 32 page) in
    let here : drop at page ≡ bytes = ap (λ (k : ℕ). drop k page) place ∙ sym (drop-drop (i * 4) 32 page) in
    let width : size ≡ number_at bytes 2 2 = se ∙ ap (λ (l : List ℕ). number_of (take 2 l)) (sym (drop-drop 2 at page) ∙ ap (drop 2) here) in
    let offset : from ≡ number_at bytes 0 2 = fe ∙ ap (λ (l : List ℕ). number_of (take 2 l)) here in
    let used : eqb size 0 ≡ false = ne_eqb size 0 (λ e. absurd (omega arith)) in
    ap (λ (t : Bool). cond t None (Some (field_at page from size))) (sym used)
    ∙ (λ i. cond (eqb (width i) 0) None (Some (field_at page (offset i) (width i))))
    ∙ sym (slot_read page (number_at page 2 2) i (drop 32 page) (omega (arith, count_read page kind)))
    ∙ ap (λ (s : List Slot). get_or s i None) (sym (slots_some page kind))

-- where a tuple begins, by the offset of its slot
pub record OffsetAt (slots : List Slot) (i offset : ℕ) : Type 0 where
  pub free : offset ≡ 0 → end_from 8192 (i + 1) slots ≡ end_from 8192 i slots
  pub used : 0 < offset → offset ≡ end_from 8192 (i + 1) slots
  pub begins : 0 < length (tuple_bytes (get_or slots i None)) → offset ≡ end_from 8192 i slots - length (tuple_bytes (get_or slots i None))

pub offset_read : (kind : ℕ) (slots : List Slot) (page : List ℕ) (i at offset : ℕ) → HasSlots kind slots page → i < length slots → at ≡ i → offset ≡ number_of (field_at page (32 + at * 4) 2) → OffsetAt slots i offset
offset_read kind slots page i at offset has below place is =
    let s = slot_at kind slots page i has below in
    let tuple = tuple_bytes (get_or slots i None) in
    let here : offset ≡ number_of (field_at page (32 + i * 4) 2) = is ∙ ap (λ (k : ℕ). number_of (field_at page (32 + k * 4) 2)) place in
    let next : end_from 8192 (i + 1) slots ≡ end_from 8192 i slots - length tuple = ap (λ (k : ℕ). end_from 8192 k slots) (let e : i + 1 ≡ suc i = omega arith in e) ∙ end_more i slots 8192 in
    let empty : length tuple ≡ 0 → offset ≡ 0 = λ e. here ∙ s.free (free_at kind slots page i has e) in
    let full : 0 < length tuple → offset ≡ end_from 8192 i slots - length tuple = λ some. here ∙ s.offset some in
    by (length tuple) refl next empty full s.room
  where
    by : (n : ℕ) → length (tuple_bytes (get_or slots i None)) ≡ n → end_from 8192 (i + 1) slots ≡ end_from 8192 i slots - length (tuple_bytes (get_or slots i None)) → (length (tuple_bytes (get_or slots i None)) ≡ 0 → offset ≡ 0) → (0 < length (tuple_bytes (get_or slots i None)) → offset ≡ end_from 8192 i slots - length (tuple_bytes (get_or slots i None)))
        → 32 + 4 * length slots + length (tuple_bytes (get_or slots i None)) ≤ end_from 8192 i slots → OffsetAt slots i offset
    by zero e next empty full room = record { free = λ z. omega arith; used = λ some. absurd (omega (arith, empty e)); begins = λ some. absurd (omega arith) }
    by (suc n) e next empty full room =
        let is_there = full (omega arith) in
        record { free = λ z. absurd (omega arith); used = λ some. omega arith; begins = λ some. is_there }

-- free slots

pub free_found : (slots : List Slot) (i : ℕ) → i < length slots → get_or slots i None ≡ None → i + free_slot_of (drop i slots) ≡ free_slot_of slots → i ≡ free_slot_of slots
unfolding free_slot_of
free_found slots i below free so_far =
    let none : free_slot_of (drop i slots) ≡ 0 = ap free_slot_of (drop_more slots i None below) ∙ ap (λ (s : Slot). free_slot_of (s ∷ drop (i + 1) slots)) free in
    omega arith

used_first : (slot : Slot) (slots : List Slot) → 0 < length (tuple_bytes slot) → free_slot_of (slot ∷ slots) ≡ suc (free_slot_of slots)
unfolding free_slot_of
used_first None slots some = absurd (omega arith)
used_first (Some tuple) slots some = refl

pub free_next : (slots : List Slot) (i : ℕ) → i < length slots → 0 < length (tuple_bytes (get_or slots i None)) → i + free_slot_of (drop i slots) ≡ free_slot_of slots → i + 1 + free_slot_of (drop (i + 1) slots) ≡ free_slot_of slots
free_next slots i below some so_far =
    let more : free_slot_of (drop i slots) ≡ suc (free_slot_of (drop (i + 1) slots)) = ap free_slot_of (drop_more slots i None below) ∙ used_first (get_or slots i None) (drop (i + 1) slots) some in
    omega arith

pub free-end : (slots : List Slot) (i : ℕ) → i ≡ length slots → i + free_slot_of (drop i slots) ≡ free_slot_of slots → i ≡ free_slot_of slots
unfolding free_slot_of
free-end slots i all so_far =
    let none : free_slot_of (drop i slots) ≡ 0 = ap free_slot_of (drop_all i slots (omega arith)) in
    omega arith

-- free bytes lie between the directory and the last tuple
pub free_between : (kind : ℕ) (slots : List Slot) (page : List ℕ) (n : ℕ) → HasSlots kind slots page → n ≡ length slots → (32 + n * 4 ≤ end_from 8192 n slots) × (end_from 8192 n slots - (32 + n * 4) ≡ free_of slots)
free_between kind slots page n has is =
    let all : end_from 8192 n slots ≡ 8192 - length (tuples slots) = ap (λ (k : ℕ). end_from 8192 k slots) is ∙ end_all slots 8192 in
    (omega (arith, taken-is slots, has.fit.room), omega (arith, taken-is slots, has.fit.room))

pub free_empty : (slots : List Slot) → length slots ≡ 0 → 8160 ≡ free_of slots
unfolding taken
free_empty [] none = refl
free_empty (slot ∷ slots) none = absurd (omega arith)

-- entries

pub entries_none : (page : List ℕ) → (get_or page 0 0 ≡ 4 → ⊥) → entries_of page ≡ []
unfolding entries_of
entries_none page other = ap (λ (t : Bool). cond t (entries_in 1020 (drop 32 page)) []) (ne_eqb (get_or page 0 0) 4 other)

entries_some : (page : List ℕ) (n : ℕ) → n ≡ 1020 → get_or page 0 0 ≡ 4 → entries_of page ≡ entries_in n (drop 32 page)
unfolding entries_of
entries_some page n is map = ap (λ (t : Bool). cond t (entries_in 1020 (drop 32 page)) []) (eq-eqb (get_or page 0 0) 4 map) ∙ ap (λ (k : ℕ). entries_in k (drop 32 page)) (sym is)

-- an entry by its two numbers
pub entry_found : (page : List ℕ) (n i at block slot : ℕ) → n ≡ 1020 → get_or page 0 0 ≡ 4 → i < n → at ≡ 32 + i * 8 → block ≡ number_of (field_at page at 4) → slot ≡ number_of (field_at page (at + 4) 2)
    → cond (eqb (block + slot) 0) None (Some (record { block = block; slot = slot })) ≡ get_or (entries_of page) i None
entry_found page n i at block slot is map below place be se =
    let bytes = drop (i * 8) (drop 32 page) in
    let here : drop at page ≡ bytes = ap (λ (k : ℕ). drop k page) place ∙ sym (drop-drop (i * 8) 32 page) in
    let b : block ≡ number_at bytes 0 4 = be ∙ ap (λ (l : List ℕ). number_of (take 4 l)) here in
    let s : slot ≡ number_at bytes 4 2 = se ∙ ap (λ (l : List ℕ). number_of (take 2 l)) (sym (drop-drop 4 at page) ∙ ap (drop 4) here) in
    (λ i. cond (eqb (b i + s i) 0) None (Some (record { block = b i; slot = s i })))
    ∙ sym (entry_read n i (drop 32 page) below)
    ∙ ap (λ (e : List (Option Spot)). get_or e i None) (sym (entries_some page n is map))

pub entry_none : (page : List ℕ) (n i at block slot : ℕ) → n ≡ 1020 → get_or page 0 0 ≡ 4 → i < n → at ≡ 32 + i * 8 → block ≡ number_of (field_at page at 4) → slot ≡ number_of (field_at page (at + 4) 2) → block ≡ 0 → slot ≡ 0 → None ≡ get_or (entries_of page) i None
entry_none page n i at block slot is map below place be se bz sz =
    ap (λ (t : Bool). cond t None (Some (record { block = block; slot = slot }))) (sym (eq-eqb (block + slot) 0 (omega arith))) ∙ entry_found page n i at block slot is map below place be se

pub entry_some : (page : List ℕ) (n i at block slot : ℕ) → n ≡ 1020 → get_or page 0 0 ≡ 4 → i < n → at ≡ 32 + i * 8 → block ≡ number_of (field_at page at 4) → slot ≡ number_of (field_at page (at + 4) 2) → 0 < block + slot → Some (record { block = block; slot = slot }) ≡ get_or (entries_of page) i None
entry_some page n i at block slot is map below place be se some =
    ap (λ (t : Bool). cond t None (Some (record { block = block; slot = slot }))) (sym (ne_eqb (block + slot) 0 (λ e. absurd (omega arith)))) ∙ entry_found page n i at block slot is map below place be se

-- the number of map pages

pub pages_none : (page : List ℕ) → (get_or page 0 0 ≡ 3 → ⊥) → map_pages_of page ≡ 0
unfolding map_pages_of
pages_none page other = ap (λ (t : Bool). cond t (number_at page 32 4) 0) (ne_eqb (get_or page 0 0) 3 other)

pub pages_some : (page : List ℕ) → get_or page 0 0 ≡ 3 → number_at page 32 4 ≡ map_pages_of page
unfolding map_pages_of
pages_some page meta = ap (λ (t : Bool). cond t (number_at page 32 4) 0) (sym (eq-eqb (get_or page 0 0) 3 meta))

-- a metapage has one number, and a page of the map one list of entries

meta_number : (pages z : ℕ) → pages < 4294967296 → number_at (header 3 0 ++ (bytes_high_first 4 pages ++ replicate z 0)) 32 4 ≡ pages
meta_number pages z small = number-bytes 4 pages small

meta_read : (pages : ℕ) (page : List ℕ) → page ≡ meta_bytes pages → pages < 4294967296 → number_at page 32 4 ≡ pages
unfolding meta_bytes
meta_read pages page e small = ap (λ (l : List ℕ). number_at l 32 4) e ∙ meta_number pages (8160 - 4) small

pub one_number : (pages : ℕ) (page : List ℕ) → IsMeta pages page → pages ≡ map_pages_of page
one_number pages page meta =
    sym (sym (pages_some page (ap (λ (l : List ℕ). get_or l 0 0) meta.bytes ∙ front_meta pages)) ∙ meta_read pages page meta.bytes (omega (arith, meta.small)))

map_body : (entries : List (Option Spot)) (page : List ℕ) → page ≡ map_bytes entries → drop 32 page ≡ entries_bytes entries ++ []
unfolding map_bytes
map_body entries page e = ap (drop 32) e ∙ sym (Rattle.std.proofs.lemmas.List.append-nil (entries_bytes entries))

pub one_map : (entries : List (Option Spot)) (page : List ℕ) → IsMap entries page → entries ≡ entries_of page
one_map entries page map =
    sym (entries_some page (length entries) map.counted (ap (λ (l : List ℕ). get_or l 0 0) map.bytes ∙ front_map entries)
    ∙ ap (entries_in (length entries)) (map_body entries page map.bytes)
    ∙ entries_again entries [] map.are)
