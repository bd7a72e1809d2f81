-- The tuple in a slot by its entry of the directory, and its length.
use Rattle.std.proofs.Common.{◌≡◌, ◌≢◌, ℕ, zero, suc, ◌+◌, ◌*◌, ◌<◌, ◌≤◌, ◌==◌, Bool, true, false, List, [], ◌∷◌, length, take, drop, get_or, inl, inr, refl, sym, ap, subst, ◌∙◌, arith}
use Rattle.std.specs.Prelude.{slice_index, slice_index_or, None, Some, if◌then◌else◌}
use Rattle.std.proofs.lemmas.List.{drop-drop, get_or_past}
use Rattle.std.proofs.lemmas.Bool.{cases_lt, le-ltb, lt-ltb, ne_eqb}
use Rattle.std.proofs.lemmas.Option.{none-some}
use Rattle.byte_fields.specs.Fields.{field_at, number_of}
use Rattle.index_contents.specs.TheConstants.{REGULAR}
use Rattle.index_contents.specs.IndexPages.{AreSlots, IsRegular, IsSlot, Slot, taken, tuple_bytes}
use Rattle.index_contents.specs.IndexReading.{free_of, is_regular, number_at, slot_in, slots_in, slots_of}
use Rattle.index_contents.specs.IndexContents.{beside, room_in_place, tuple_on}
use Rattle.index_contents.proofs.Rooms.{four_each, slots_none}
use Rattle.index_contents.specs.Reading.{unstarted_kind}
use Rattle.page_map.specs.PageMap.{unstarted_page}
use Rattle.range_store.specs.Tuples.{place_on, size_of, tuple_from}
use Rattle.range_store.proofs.PageWrites.{used_below}

-- a slot that is read from its own four bytes
slot_read : (page : List ℕ) (n i : ℕ) (bytes : List ℕ) → i < n → get_or (slots_in page n bytes) i None ≡ slot_in page (drop (i * 4) bytes)
unfolding slots_in
slot_read page zero i bytes below = absurd (omega arith)
slot_read page (suc n) zero bytes below = ap (λ (k : ℕ). slot_in page (drop k bytes)) (let e : 0 ≡ 0 * 4 = omega arith in e)
slot_read page (suc n) (suc i) bytes below =
    slot_read page n i (drop 4 bytes) (omega arith) ∙ ap (slot_in page) (drop-drop (i * 4) 4 bytes ∙ ap (λ (k : ℕ). drop k bytes) (let e : 4 + i * 4 ≡ suc i * 4 = omega arith in e))

length_in : (page : List ℕ) (n : ℕ) (bytes : List ℕ) → length (slots_in page n bytes) ≡ n
unfolding slots_in
length_in page zero bytes = refl
length_in page (suc n) bytes = ap suc (length_in page n (drop 4 bytes))

slots_some : (page : List ℕ) → is_regular (slice_index page 0) ≡ true → slots_of page ≡ slots_in page (number_at page 2 2) (drop 32 page)
unfolding slots_of
slots_some page e = ap (λ t. if t then slots_in page (number_at page 2 2) (drop 32 page) else []) e

-- a field of what is behind a place
field_behind : (page : List ℕ) (i j : ℕ) → field_at (drop (i * 4) (drop 32 page)) j 2 ≡ field_at page (32 + i * 4 + j) 2
field_behind page i j = ap (take 2) (drop-drop j (i * 4) (drop 32 page) ∙ drop-drop (i * 4 + j) 32 page ∙ ap (λ (k : ℕ). drop k page) (let e : 32 + (i * 4 + j) ≡ 32 + i * 4 + j = omega arith in e))

-- so the directory tells where a tuple stands
found_there : (page : List ℕ) (slot size at : ℕ) → is_regular (slice_index page 0) ≡ true → slot < length (slots_of page) → size ≡ number_of (field_at page (32 + slot * 4 + 2) 2) → at ≡ number_of (field_at page (32 + slot * 4) 2) → tuple_on page slot ≡ tuple_from page at size
found_there page slot size at regular below long begins =
    let list = slots_some page regular in
    let many : length (slots_of page) ≡ number_at page 2 2 = ap (length {A = Slot}) list ∙ length_in page (number_at page 2 2) (drop 32 page) in
    let inside : slot < number_at page 2 2 = omega (arith, below, many) in
    let entry : List ℕ = drop (slot * 4) (drop 32 page) in
    let same : number_at entry 2 2 ≡ size = ap number_of (field_behind page slot 2) ∙ sym long in
    let first : 32 + slot * 4 + 0 ≡ 32 + slot * 4 = omega arith in
    let from : number_at entry 0 2 ≡ at = ap number_of (field_behind page slot 0 ∙ ap (λ (k : ℕ). field_at page k 2) first) ∙ sym begins in
    ap (λ (l : List Slot). slice_index_or l slot None) list ∙ slot_read page (number_at page 2 2) slot (drop 32 page) inside
    ∙ ap (λ (n : ℕ). if n == 0 then None else Some (field_at page (number_at entry 0 2) n)) same
    ∙ ap (λ (k : ℕ). tuple_from page k size) from

-- what is taken twice
take_again : (n : ℕ) (bytes : List ℕ) → take (length (take n bytes)) bytes ≡ take n bytes
take_again zero bytes = refl
take_again (suc n) [] = refl
take_again (suc n) (b ∷ bytes) = ap (λ (l : List ℕ). b ∷ l) (take_again n bytes)

same_tuple : (a b : List ℕ) → Some a ≡ Some b → a ≡ b
same_tuple a b e = cc

-- a tuple has the bytes from its place on that are as many as it has, also where the page ends before the length that was read
pub as_long : (page : List ℕ) (at size : ℕ) (slot : Slot) → IsSlot slot → slot ≡ tuple_from page at size → slot ≡ tuple_from page at (size_of slot)
as_long page at size None some is = refl
as_long page at size (Some tuple) some is = on (size == 0) is
  where
    on : (b : Bool) → Some tuple ≡ (if b then None else Some (field_at page at size)) → Some tuple ≡ tuple_from page at (length tuple)
    on true e = absurd (none-some _ (sym e))
    on false e =
        let same : tuple ≡ field_at page at size = same_tuple tuple (field_at page at size) e in
        let again : field_at page at (length tuple) ≡ tuple = ap (λ (l : List ℕ). field_at page at (length l)) same ∙ take_again size (drop at page) ∙ sym same in
        sym (ap (λ (b : Bool). if b then None else Some (field_at page at (length tuple))) (ne_eqb (length tuple) 0 (λ e. absurd (omega (arith, some, e)))) ∙ ap (λ (l : List ℕ). Some l) again)

slot_at : (list : List Slot) (slot : ℕ) → AreSlots list → IsSlot (slice_index_or list slot None)
slot_at [] slot are = subst IsSlot (sym (get_or_past {X = Slot} [] slot None (omega arith))) tt
slot_at (first ∷ list) zero are = are.0
slot_at (first ∷ list) (suc slot) are = slot_at list slot are.1

-- so a tuple is shown by its place and its length
pub shown_there : (page : List ℕ) (slot size at : ℕ) → IsRegular (slice_index page 0) (slots_of page) page → slot < length (slots_of page) → is_regular (slice_index page 0) ≡ true → size ≡ size_of (tuple_on page slot) → at ≡ number_of (field_at page (32 + slot * 4) 2) → tuple_on page slot ≡ tuple_from page at size
shown_there page slot size at regular below is long begins =
    let read : ℕ = number_of (field_at page (32 + slot * 4 + 2) 2) in
    subst (λ (n : ℕ). tuple_on page slot ≡ tuple_from page at n) (sym long) (as_long page at read (tuple_on page slot) (slot_at (slots_of page) slot regular.has.fit.are) (found_there page slot read at is below refl begins))

-- a tuple takes room
pub length_taken : (list : List Slot) (slot : ℕ) (bytes : List ℕ) → slice_index_or list slot None ≡ Some bytes → length bytes + 4 ≤ taken list
unfolding taken
length_taken [] slot bytes used = absurd (omega (arith, used_below [] slot bytes used))
length_taken (first ∷ list) zero bytes used =
    let long : length (tuple_bytes first) ≡ length bytes = ap (λ (s : Slot). length (tuple_bytes s)) used in
    omega (arith, long)
length_taken (first ∷ list) (suc slot) bytes used = omega (arith, length_taken list slot bytes used)

-- and not more than a page has
pub tuple_fits : (page : List ℕ) (slot : ℕ) (bytes : List ℕ) → (is_regular (slice_index page 0) ≡ true → IsRegular (slice_index page 0) (slots_of page) page) → tuple_on page slot ≡ Some bytes → (length bytes + 4 ≤ 8160) × (length bytes + free_of (slots_of page) ≤ 8156)
tuple_fits page slot bytes regular used = on (is_regular (slice_index page 0)) refl
  where
    on : (b : Bool) → is_regular (slice_index page 0) ≡ b → (length bytes + 4 ≤ 8160) × (length bytes + free_of (slots_of page) ≤ 8156)
    on true is =
        let room : taken (slots_of page) ≤ 8160 = (regular is).has.fit.room in
        let long : length bytes + 4 ≤ taken (slots_of page) = length_taken (slots_of page) slot bytes used in
        (omega arith, omega arith)
    on false is = absurd (none-some _ (sym (ap (λ (l : List Slot). slice_index_or l slot None) (slots_none page is)) ∙ used))

-- what may stand in place of a tuple
pub room_there : (page : List ℕ) (slot : ℕ) (bytes : List ℕ) → slice_index page 0 ≡ REGULAR → tuple_on page slot ≡ Some bytes → room_in_place page slot ≡ free_of (slots_of page) + length bytes
room_there page slot bytes is used =
    ap (λ (k : ℕ). if k == REGULAR then beside (free_of (slots_of page)) (tuple_on page slot) else 0) is ∙ ap (beside (free_of (slots_of page))) used

pub no_room_there : (page : List ℕ) (slot : ℕ) → slice_index page 0 ≢ REGULAR → room_in_place page slot ≡ 0
no_room_there page slot apart = ap (λ (b : Bool). if b then beside (free_of (slots_of page)) (tuple_on page slot) else 0) (ne_eqb (slice_index page 0) REGULAR apart)

-- a page with a slot is one of tuples, and its directory lies on it
pub has_tuples : (page : List ℕ) (slot : ℕ) → slot < length (slots_of page) → is_regular (slice_index page 0) ≡ true
has_tuples page slot below = on (is_regular (slice_index page 0)) refl
  where
    on : (b : Bool) → is_regular (slice_index page 0) ≡ b → is_regular (slice_index page 0) ≡ true
    on true is = is
    on false is = let none : length (slots_of page) ≡ 0 = ap (length {A = Slot}) (slots_none page is) in absurd (omega (arith, below, none))

pub directory_within : (page : List ℕ) (slot : ℕ) → (is_regular (slice_index page 0) ≡ true → IsRegular (slice_index page 0) (slots_of page) page) → slot < length (slots_of page) → 32 + slot * 4 + 4 ≤ 8192
directory_within page slot regular below =
    let room : taken (slots_of page) ≤ 8160 = (regular (has_tuples page slot below)).has.fit.room in
    omega (arith, room, below, four_each (slots_of page))

-- where a slot's tuple begins
pub place_there : (page : List ℕ) (slot at : ℕ) → slot < length (slots_of page) → at ≡ number_of (field_at page (32 + slot * 4) 2) → at ≡ place_on page slot
place_there page slot at below begins = begins ∙ sym (ap (λ (b : Bool). if b then number_at page (32 + slot * 4) 2 else 0) (lt-ltb slot (length (slots_of page)) below))

pub no_place : (page : List ℕ) (slot : ℕ) → length (slots_of page) ≤ slot → 0 ≡ place_on page slot
no_place page slot past = sym (ap (λ (b : Bool). if b then number_at page (32 + slot * 4) 2 else 0) (le-ltb slot (length (slots_of page)) past))

pub no_slots_unstarted : length (slots_of unstarted_page) ≡ 0
unfolding slots_of
no_slots_unstarted = ap (λ (k : ℕ). length {A = Slot} (if is_regular k then slots_in unstarted_page (number_at unstarted_page 2 2) (drop 32 unstarted_page) else [])) unstarted_kind

-- a page that the index can't have has no tuple and no place for one
pub nothing_past : (page : List ℕ) (slot : ℕ) → page ≡ unstarted_page → 0 ≡ place_on page slot
nothing_past page slot past = no_place page slot (let none = ap (λ (p : List ℕ). length (slots_of p)) past ∙ no_slots_unstarted in omega (arith, none))

-- a slot with a tuple is one of the page's
pub slot_below : (page : List ℕ) (slot : ℕ) → tuple_on page slot ≢ None → slot < length (slots_of page)
slot_below page slot used = elim (cases_lt slot (length (slots_of page))) [
  | inl below ↦ below
  | inr past ↦ absurd (used (get_or_past (slots_of page) slot None past))
]

-- a slot that the page hasn't has no tuple
pub no_slot : (page : List ℕ) (slot : ℕ) → length (slots_of page) ≤ slot → tuple_on page slot ≡ None
no_slot page slot past = get_or_past (slots_of page) slot None past
