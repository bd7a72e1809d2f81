-- Pages of an index after a write.
use Rattle.std.proofs.Common.{◌≡◌, ℕ, zero, suc, ◌+◌, ◌-◌, ◌*◌, ◌<◌, ◌≤◌, ◌⊎◌, inl, inr, Bool, true, false, cond, eqb, List, [], ◌∷◌, ◌++◌, length, take, drop, set, get_or, refl, sym, ap, subst, ◌∙◌, append_assoc, length-append, arith}
use Rattle.std.specs.Prelude.{Option, None, Some, replicate}
use Rattle.std.specs.Int.{bytes_high_first}
use Rattle.std.proofs.lemmas.Bool.{lt-ltb, le-ltb, eqb-false, eqb-true}
use Rattle.std.proofs.lemmas.List.{append-nil, length-replicate, replicate-append-replicate, length-set, length-take-le, set_split, set-get_or, set_at, length_push, take_more, drop_all}
use Rattle.block_model.specs.declared.place.Spot.{Spot}
use Rattle.byte_fields.specs.Fields.{put_at, put-part}
use borrow.Rule.Slice.PartMut.{put_mid}
use Rattle.index_layout.specs.IndexPages.{Slot, AreSlots, IsLastUsed, HasSlots, IsRegular, IsMeta, IsMap, IsIndexPage, Unstarted, Meta, Map, Regular, IsEntry, AreEntries, entry_bytes, entries_bytes, tuple_bytes, taken, directory, tuples, header, regular_bytes, meta_bytes, map_bytes}
use Rattle.index_layout.specs.IndexReading.{entries_of, end_from, free_of}
use Rattle.index_layout.specs.IndexWrites.{put_in, before, trimmed, entry_for, slot_with}
use Rattle.index_layout.proofs.Entries.{length-entries}
use Rattle.index_layout.proofs.SlotWrites.{directory-append, tuples-append, taken-append, write_behind}
use Rattle.index_layout.proofs.Reading.{front_zero, front_meta, front_map, one_map, regular_front}

-- free slots behind others

directory_free : (m end : ℕ) → directory end (replicate m None) ≡ replicate (m * 4) 0
unfolding directory
directory_free zero end = ap (λ (n : ℕ). replicate n 0) (let e : 0 ≡ 0 * 4 = omega arith in e)
directory_free (suc m) end =
    ap (λ (l : List ℕ). 0 ∷ 0 ∷ 0 ∷ 0 ∷ l) (directory_free m (end - 0))
    ∙ replicate-append-replicate 4 (m * 4) 0
    ∙ ap (λ (n : ℕ). replicate n 0) (let e : 4 + m * 4 ≡ suc m * 4 = omega arith in e)

tuples_free : (m : ℕ) → tuples (replicate m None) ≡ []
unfolding tuples
tuples_free zero = refl
tuples_free (suc m) = append-nil (tuples (replicate m None)) ∙ tuples_free m

pub taken_free : (m : ℕ) → taken (replicate m None) ≡ 4 * m
unfolding taken
taken_free zero = omega arith
taken_free (suc m) = omega (arith, taken_free m)

abbrev body : List Slot → List ℕ
body slots = directory 8192 slots ++ (replicate (8160 - taken slots) 0 ++ tuples slots)

-- the bytes behind the header are the same with and without them
body_free : (slots : List Slot) (m : ℕ) → taken slots + 4 * m ≤ 8160 → body (slots ++ replicate m None) ≡ body slots
body_free slots m room =
    let all = slots ++ replicate m None in
    let d : directory 8192 all ≡ directory 8192 slots ++ replicate (m * 4) 0 = directory-append slots (replicate m None) 8192 ∙ ap (λ (l : List ℕ). directory 8192 slots ++ l) (directory_free m (end_from 8192 (length slots) slots)) in
    let t : tuples all ≡ tuples slots = tuples-append slots (replicate m None) ∙ ap (λ (l : List ℕ). l ++ tuples slots) (tuples_free m) in
    let left = 8160 - taken all in
    let z : m * 4 + left ≡ 8160 - taken slots = omega (arith, taken-append slots (replicate m None), taken_free m) in
    (λ i. d i ++ (replicate left 0 ++ t i))
    ∙ append_assoc (directory 8192 slots) (replicate (m * 4) 0) (replicate left 0 ++ tuples slots)
    ∙ ap (λ (l : List ℕ). directory 8192 slots ++ l) (sym (append_assoc (replicate (m * 4) 0) (replicate left 0) (tuples slots)) ∙ ap (λ (l : List ℕ). l ++ tuples slots) (replicate-append-replicate (m * 4) left 0))
    ∙ ap (λ (n : ℕ). directory 8192 slots ++ (replicate n 0 ++ tuples slots)) z

-- another number of slots in the header
recounted : (kind count new : ℕ) (rest : List ℕ) → put_at (header kind count ++ rest) 2 2 new ≡ header kind new ++ rest
unfolding put_at
recounted kind count new rest = refl

bytes_are : (kind : ℕ) (slots : List Slot) → regular_bytes kind slots ≡ header kind (length slots) ++ body slots
unfolding regular_bytes
bytes_are kind slots = refl

are_append : (xs ys : List Slot) → AreSlots xs → AreSlots ys → AreSlots (xs ++ ys)
are_append [] ys ax ay = ay
are_append (x ∷ xs) ys ax ay = (ax.0, are_append xs ys ax.1 ay)

-- the next slot is there and free
pub slot_added : (kind : ℕ) (slots : List Slot) (page new : List ℕ) (count : ℕ) → HasSlots kind slots page → count ≡ length slots → 4 ≤ free_of slots → new ≡ put_at page 2 2 (count + 1) → HasSlots kind (slots ++ None ∷ []) new
slot_added kind slots page new count has counted room put =
    let all = slots ++ None ∷ [] in
    let more : count + 1 ≡ length all = omega (arith, length-append slots (None ∷ [])) in
    let sizes = taken-append slots (None ∷ []) in
    let one = taken_free 1 in
    record {
      of = has.of;
      fit = record { are = are_append slots (None ∷ []) has.fit.are (tt, tt); room = omega (arith, has.fit.room) };
      bytes =
          put
          ∙ ap (λ (l : List ℕ). put_at l 2 2 (count + 1)) (has.bytes ∙ bytes_are kind slots)
          ∙ recounted kind (length slots) (count + 1) (body slots)
          ∙ (λ i. header kind (more i) ++ sym (body_free slots 1 (omega arith)) i)
          ∙ sym (bytes_are kind all);
    }

-- slots up to the last used one

before_more : (slot : Slot) (slots : List Slot) → 0 < length slots → before slot slots ≡ slot ∷ slots
before_more None [] some = absurd (omega arith)
before_more None (next ∷ slots) some = refl
before_more (Some tuple) slots some = refl

last_before : (slot : Slot) (slots : List Slot) → IsLastUsed slots → IsLastUsed (before slot slots)
last_before None [] last = tt
last_before None (next ∷ slots) last = last
last_before (Some tuple) [] last = tt
last_before (Some tuple) (next ∷ slots) last = last

pub last_trimmed : (slots : List Slot) → IsLastUsed (trimmed slots)
unfolding trimmed
last_trimmed [] = tt
last_trimmed (slot ∷ slots) = last_before slot (trimmed slots) (last_trimmed slots)

-- the others are free
free_before : (slot : Slot) (slots rest : List Slot) (m : ℕ) → rest ≡ slots ++ replicate m None → (k : ℕ) × (slot ∷ rest ≡ before slot slots ++ replicate k None)
free_before None [] rest m e = (suc m, ap (λ (l : List Slot). None ∷ l) e)
free_before None (next ∷ slots) rest m e = (m, ap (λ (l : List Slot). None ∷ l) e)
free_before (Some tuple) slots rest m e = (m, ap (λ (l : List Slot). Some tuple ∷ l) e)

pub trimmed_rest : (slots : List Slot) → (m : ℕ) × (slots ≡ trimmed slots ++ replicate m None)
unfolding trimmed
trimmed_rest [] = (0, refl)
trimmed_rest (slot ∷ slots) =
    let rest = trimmed_rest slots in
    free_before slot (trimmed slots) slots rest.0 rest.1

are_front : (xs ys : List Slot) → AreSlots (xs ++ ys) → AreSlots xs
are_front [] ys are = tt
are_front (x ∷ xs) ys are = (are.0, are_front xs ys are.1)

-- the directory ends with the last used slot
pub slots_trimmed : (kind : ℕ) (slots : List Slot) (page new : List ℕ) (used : ℕ) → HasSlots kind slots page → used ≡ length (trimmed slots) → new ≡ put_at page 2 2 used → IsRegular kind (trimmed slots) new
slots_trimmed kind slots page new used has counted put =
    let kept = trimmed slots in
    let rest = trimmed_rest slots in
    let m = rest.0 in
    let sizes = ap taken rest.1 ∙ taken-append kept (replicate m None) in
    let free = taken_free m in
    record {
      has = record {
        of = has.of;
        fit = record { are = are_front kept (replicate m None) (subst AreSlots rest.1 has.fit.are); room = omega (arith, has.fit.room) };
        bytes =
            put
            ∙ ap (λ (l : List ℕ). put_at l 2 2 used) (has.bytes ∙ bytes_are kind slots)
            ∙ recounted kind (length slots) used (body slots)
            ∙ (λ i. header kind (counted i) ++ (ap body rest.1 ∙ body_free kept m (omega (arith, has.fit.room))) i)
            ∙ sym (bytes_are kind kept);
      };
      last = last_trimmed slots;
    }

-- the last used slot is found from the end

trim_push : (slots : List Slot) → trimmed (slots ++ None ∷ []) ≡ trimmed slots
unfolding trimmed
trim_push [] = refl
trim_push (slot ∷ slots) = ap (before slot) (trim_push slots)

trim_used : (slots : List Slot) (tuple : List ℕ) → trimmed (slots ++ Some tuple ∷ []) ≡ slots ++ Some tuple ∷ []
unfolding trimmed
trim_used [] tuple = refl
trim_used (slot ∷ slots) tuple = ap (before slot) (trim_used slots tuple) ∙ before_more slot (slots ++ Some tuple ∷ []) (omega (arith, length-append slots (Some tuple ∷ [])))

pub used-next : (slots : List Slot) (n i : ℕ) → n ≡ i + 1 → i < length slots → get_or slots i None ≡ None → trimmed (take n slots) ≡ trimmed slots → trimmed (take i slots) ≡ trimmed slots
used-next slots n i more below free so_far =
    sym (trim_push (take i slots)) ∙ ap (λ (s : Slot). trimmed (take i slots ++ s ∷ [])) (sym free) ∙ ap trimmed (sym (take_more slots i None below)) ∙ ap (λ (k : ℕ). trimmed (take k slots)) (sym more) ∙ so_far

used_by : (slot : Slot) (slots : List Slot) → 0 < length (tuple_bytes slot) → trimmed (slots ++ slot ∷ []) ≡ slots ++ slot ∷ []
used_by None slots some = absurd (omega arith)
used_by (Some tuple) slots some = trim_used slots tuple

pub used-found : (slots : List Slot) (n i : ℕ) → n ≡ i + 1 → i < length slots → 0 < length (tuple_bytes (get_or slots i None)) → trimmed (take n slots) ≡ trimmed slots → i + 1 ≡ length (trimmed slots)
used-found slots n i more below some so_far =
    let front = take i slots in
    let slot = get_or slots i None in
    let own : trimmed slots ≡ front ++ slot ∷ [] = sym so_far ∙ ap (λ (k : ℕ). trimmed (take k slots)) more ∙ ap trimmed (take_more slots i None below) ∙ used_by slot front some in
    sym (ap length own ∙ length_push front slot ∙ ap (λ (k : ℕ). k + 1) (length-take-le i slots (omega arith)))

pub used-end : (slots : List Slot) (n : ℕ) → n ≡ 0 → trimmed (take n slots) ≡ trimmed slots → 0 ≡ length (trimmed slots)
unfolding trimmed
used-end slots n none so_far = ap (λ (k : ℕ). length (trimmed (take k slots))) (sym none) ∙ ap length so_far

-- a tuple in a slot

pub with_some : (tuple : List ℕ) → 0 < length tuple → slot_with tuple ≡ Some tuple
with_some [] some = absurd (omega arith)
with_some (byte ∷ bytes) some = refl

pub last_set : (slots : List Slot) (n : ℕ) (tuple : List ℕ) → IsLastUsed slots → IsLastUsed (set slots n (Some tuple))
last_set [] n tuple last = tt
last_set (slot ∷ []) zero tuple last = tt
last_set (None ∷ []) (suc n) tuple last = last
last_set (Some old ∷ []) (suc n) tuple last = tt
last_set (None ∷ (next ∷ slots)) zero tuple last = last
last_set (Some old ∷ (next ∷ slots)) zero tuple last = last
last_set (None ∷ (next ∷ slots)) (suc zero) tuple last = last_set (next ∷ slots) zero tuple last
last_set (Some old ∷ (next ∷ slots)) (suc zero) tuple last = last_set (next ∷ slots) zero tuple last
last_set (None ∷ (next ∷ slots)) (suc (suc n)) tuple last = last_set (next ∷ slots) (suc n) tuple last
last_set (Some old ∷ (next ∷ slots)) (suc (suc n)) tuple last = last_set (next ∷ slots) (suc n) tuple last

last_push : (slots : List Slot) (tuple : List ℕ) → IsLastUsed (slots ++ Some tuple ∷ [])
last_push [] tuple = tt
last_push (None ∷ []) tuple = tt
last_push (Some old ∷ []) tuple = tt
last_push (None ∷ (next ∷ slots)) tuple = last_push (next ∷ slots) tuple
last_push (Some old ∷ (next ∷ slots)) tuple = last_push (next ∷ slots) tuple

pub put_there : (slots : List Slot) (n : ℕ) (tuple : List ℕ) → n < length slots → put_in slots n tuple ≡ set slots n (Some tuple)
put_there slots n tuple below = ap (λ (t : Bool). cond t (set slots n (Some tuple)) (slots ++ Some tuple ∷ [])) (lt-ltb n (length slots) below)

pub put_next : (slots : List Slot) (n : ℕ) (tuple : List ℕ) → n ≡ length slots → put_in slots n tuple ≡ slots ++ Some tuple ∷ []
put_next slots n tuple is = ap (λ (t : Bool). cond t (set slots n (Some tuple)) (slots ++ Some tuple ∷ [])) (le-ltb n (length slots) (omega arith))

-- the tuple stands in a slot that is there
pub slot_put : (kind : ℕ) (slots : List Slot) (n : ℕ) (tuple page : List ℕ) → n < length slots → 0 < length tuple → kind ≡ 5 → IsLastUsed slots → HasSlots kind (set slots n (slot_with tuple)) page → IsRegular 5 (set slots n (Some tuple)) page
slot_put kind slots n tuple page below some five last has = record {
  has = subst (λ (k : ℕ). HasSlots k (set slots n (Some tuple)) page) five (subst (λ (s : Slot). HasSlots kind (set slots n s) page) (with_some tuple some) has);
  last = last_set slots n tuple last;
}

pub slot_put_there : (kind : ℕ) (slots : List Slot) (n : ℕ) (tuple page : List ℕ) → n < length slots → 0 < length tuple → kind ≡ 5 → IsLastUsed slots → HasSlots kind (set slots n (slot_with tuple)) page → IsRegular 5 (put_in slots n tuple) page
slot_put_there kind slots n tuple page below some five last has = subst (λ (s : List Slot). IsRegular 5 s page) (sym (put_there slots n tuple below)) (slot_put kind slots n tuple page below some five last has)

-- and in the next one, which was added
pub next_put : (kind first : ℕ) (slots all : List Slot) (n : ℕ) (tuple page : List ℕ) → n ≡ length slots → slots ++ None ∷ [] ≡ all → first ≡ kind → 0 < length tuple → HasSlots first (set all n (slot_with tuple)) page → HasSlots kind (slots ++ Some tuple ∷ []) page
next_put kind first slots all n tuple page next all_is front some has =
    let whole : set all n (slot_with tuple) ≡ slots ++ Some tuple ∷ [] = (λ i. set (sym all_is i) n (with_some tuple some i)) ∙ set_at slots None [] (Some tuple) n (sym next) in
    subst (λ (k : ℕ). HasSlots k (slots ++ Some tuple ∷ []) page) front (subst (λ (s : List Slot). HasSlots first s page) whole has)

pub slot_put_next : (kind : ℕ) (slots : List Slot) (n : ℕ) (tuple page : List ℕ) → n ≡ length slots → kind ≡ 5 → HasSlots kind (slots ++ Some tuple ∷ []) page → IsRegular 5 (put_in slots n tuple) page
slot_put_next kind slots n tuple page next five has =
    let own : IsRegular 5 (slots ++ Some tuple ∷ []) page = record { has = subst (λ (k : ℕ). HasSlots k (slots ++ Some tuple ∷ []) page) five has; last = last_push slots tuple } in
    subst (λ (s : List Slot). IsRegular 5 s page) (sym (put_next slots n tuple next)) own

-- another kind

evacuated_bytes : (slots : List Slot) (kind new : ℕ) → set (regular_bytes kind slots) 0 new ≡ regular_bytes new slots
unfolding regular_bytes
evacuated_bytes slots kind new = refl

pub evacuated : (kind : ℕ) (slots : List Slot) (page new : List ℕ) → IsRegular kind slots page → new ≡ set page 0 6 → IsRegular 6 slots new
evacuated kind slots page new regular put = record {
  has = record { of = inr refl; fit = regular.has.fit; bytes = put ∙ ap (λ (l : List ℕ). set l 0 6) regular.has.bytes ∙ evacuated_bytes slots kind 6 };
  last = regular.last;
}

-- a page of the map without entries

no_entries : (n : ℕ) → entries_bytes (replicate n None) ≡ replicate (n * 8) 0
unfolding entries_bytes
no_entries zero = ap (λ (k : ℕ). replicate k 0) (let e : 0 ≡ 0 * 8 = omega arith in e)
no_entries (suc n) =
    ap (λ (l : List ℕ). replicate 8 0 ++ l) (no_entries n) ∙ replicate-append-replicate 8 (n * 8) 0 ∙ ap (λ (k : ℕ). replicate k 0) (let e : 8 + n * 8 ≡ suc n * 8 = omega arith in e)

are_none : (n : ℕ) → AreEntries (replicate n None)
are_none zero = tt
are_none (suc n) = (tt, are_none n)

-- of a header and zeros
pub empty_map : (n z : ℕ) (page : List ℕ) → n ≡ 1020 → z ≡ 8160 → page ≡ header 4 0 ++ replicate z 0 → IsMap (replicate n None) page
unfolding map_bytes
empty_map n z page is zs e = record {
  counted = length-replicate n None ∙ is;
  are = are_none n;
  bytes = e ∙ ap (λ (l : List ℕ). header 4 0 ++ l) (ap (λ (k : ℕ). replicate k 0) (let e : z ≡ n * 8 = omega arith in e) ∙ sym (no_entries n));
}

empty_regular : (kind : ℕ) (z : ℕ) → z ≡ 8160 → regular_bytes kind [] ≡ header kind 0 ++ replicate z 0
unfolding regular_bytes directory tuples taken
empty_regular kind z is = ap (λ (l : List ℕ). header kind 0 ++ l) (append-nil (replicate (8160 - 0) 0) ∙ ap (λ (k : ℕ). replicate k 0) (let e : 8160 - 0 ≡ z = omega arith in e))

kind_set : (kind new z : ℕ) → set (header kind 0 ++ replicate z 0) 0 new ≡ header new 0 ++ replicate z 0
kind_set kind new z = refl

pub turned : (kind z n : ℕ) (slots : List Slot) (page new : List ℕ) → z ≡ 8160 → n ≡ 1020 → HasSlots kind slots page → slots ≡ [] → new ≡ set page 0 4 → IsMap (replicate n None) new
turned kind z n slots page new zs is has none put =
    empty_map n z new is zs (put ∙ ap (λ (l : List ℕ). set l 0 4) (has.bytes ∙ ap (regular_bytes kind) none ∙ empty_regular kind z zs) ∙ kind_set kind 4 z)

-- pages begun anew

zeros_set : (new z : ℕ) → set (replicate (32 + z) 0) 0 new ≡ header new 0 ++ replicate z 0
zeros_set new z = ap (λ (l : List ℕ). set l 0 new) (sym (replicate-append-replicate 32 z 0))

pub begun : (page mid : List ℕ) (kind n z : ℕ) → length page ≡ n → n ≡ 8192 → z ≡ 8160 → mid ≡ put_mid 0 n page (replicate n 0) → set mid 0 kind ≡ header kind 0 ++ replicate z 0
begun page mid kind n z long is zs cleared =
    let none : drop n page ≡ [] = drop_all n page (omega arith) in
    let zeros : mid ≡ replicate n 0 = cleared ∙ ap (λ (l : List ℕ). replicate n 0 ++ l) none ∙ append-nil (replicate n 0) in
    ap (λ (l : List ℕ). set l 0 kind) (zeros ∙ ap (λ (k : ℕ). replicate k 0) (let e : n ≡ 32 + z = omega arith in e)) ∙ zeros_set kind z

pub regular_begun : (page : List ℕ) (z : ℕ) → z ≡ 8160 → page ≡ header 5 0 ++ replicate z 0 → IsRegular 5 [] page
unfolding taken
regular_begun page z zs e = record { has = record { of = inl refl; fit = record { are = tt; room = omega arith }; bytes = e ∙ sym (empty_regular 5 z zs) }; last = tt }

-- the room of slots with one more
pub room_added : (slots all : List Slot) → slots ++ None ∷ [] ≡ all → free_of all ≡ free_of slots - 4
room_added slots all e = omega (arith, ap taken e, taken-append slots (None ∷ []), taken_free 1)

-- the metapage

meta_put : (old new z : ℕ) → put_at (header 3 0 ++ (bytes_high_first 4 old ++ replicate z 0)) 32 4 new ≡ header 3 0 ++ (bytes_high_first 4 new ++ replicate z 0)
unfolding put_at
meta_put old new z = refl

meta_is : (pages z : ℕ) → z ≡ 8160 - 4 → meta_bytes pages ≡ header 3 0 ++ (bytes_high_first 4 pages ++ replicate z 0)
unfolding meta_bytes
meta_is pages z is = ap (λ (k : ℕ). header 3 0 ++ (bytes_high_first 4 pages ++ replicate k 0)) (sym is)

pub pages_set : (old pages z : ℕ) (page new : List ℕ) → z ≡ 8160 - 4 → IsMeta old page → pages < 4294967296 → new ≡ put_at page 32 4 pages → IsMeta pages new
pages_set old pages z page new zs meta small put = record {
  small = omega arith;
  bytes = put ∙ ap (λ (l : List ℕ). put_at l 32 4 pages) (meta.bytes ∙ meta_is old z zs) ∙ meta_put old pages z ∙ sym (meta_is pages z zs);
}

zero_meta : (z : ℕ) → header 3 0 ++ replicate (4 + z) 0 ≡ header 3 0 ++ (bytes_high_first 4 0 ++ replicate z 0)
zero_meta z = ap (λ (l : List ℕ). header 3 0 ++ l) (sym (replicate-append-replicate 4 z 0))

pub meta_begun : (page : List ℕ) (y z : ℕ) → y ≡ 8160 → z ≡ 8160 - 4 → page ≡ header 3 0 ++ replicate y 0 → IsMeta 0 page
meta_begun page y z ys zs e = record {
  small = omega arith;
  bytes = e ∙ ap (λ (k : ℕ). header 3 0 ++ replicate k 0) (let s : y ≡ 4 + z = omega arith in s) ∙ zero_meta z ∙ sym (meta_is 0 z zs);
}

-- pages by their kind

pub map_of : (page : List ℕ) (n : ℕ) → n ≡ 8192 → IsIndexPage page → get_or page 0 0 ≡ 4 → IsMap (entries_of page) page
map_of page n is (Unstarted zeros) four = absurd (omega (arith, four, ap (λ (l : List ℕ). get_or l 0 0) (zeros ∙ ap (λ (k : ℕ). replicate k 0) (sym is)) ∙ front_zero n))
map_of page n is (Meta pages meta) four = absurd (omega (arith, four, ap (λ (l : List ℕ). get_or l 0 0) meta.bytes ∙ front_meta pages))
map_of page n is (Map entries map) four = subst (λ (e : List (Option Spot)). IsMap e page) (one_map entries page map) map
map_of page n is (Regular kind slots regular) four = absurd (other_kind kind 4 (sym (regular_front kind slots page regular.has) ∙ four) regular.has.of (omega arith) (omega arith))
  where
    other_kind : (kind x : ℕ) → kind ≡ x → (kind ≡ 5) ⊎ (kind ≡ 6) → (x ≡ 5 → ⊥) → (x ≡ 6 → ⊥) → ⊥
    other_kind kind x e (inl five) a b = a (sym e ∙ five)
    other_kind kind x e (inr six) a b = b (sym e ∙ six)

pub meta_of : (page : List ℕ) (n : ℕ) → n ≡ 8192 → IsIndexPage page → get_or page 0 0 ≡ 3 → (pages : ℕ) × IsMeta pages page
meta_of page n is (Unstarted zeros) three = absurd (omega (arith, three, ap (λ (l : List ℕ). get_or l 0 0) (zeros ∙ ap (λ (k : ℕ). replicate k 0) (sym is)) ∙ front_zero n))
meta_of page n is (Meta pages meta) three = (pages, meta)
meta_of page n is (Map entries map) three = absurd (omega (arith, three, ap (λ (l : List ℕ). get_or l 0 0) map.bytes ∙ front_map entries))
meta_of page n is (Regular kind slots regular) three = absurd (other_kind kind 3 (sym (regular_front kind slots page regular.has) ∙ three) regular.has.of (omega arith) (omega arith))
  where
    other_kind : (kind x : ℕ) → kind ≡ x → (kind ≡ 5) ⊎ (kind ≡ 6) → (x ≡ 5 → ⊥) → (x ≡ 6 → ⊥) → ⊥
    other_kind kind x e (inl five) a b = a (sym e ∙ five)
    other_kind kind x e (inr six) a b = b (sym e ∙ six)

-- an entry of the map

entries_append : (xs ys : List (Option Spot)) → entries_bytes (xs ++ ys) ≡ entries_bytes xs ++ entries_bytes ys
unfolding entries_bytes
entries_append [] ys = refl
entries_append (entry ∷ xs) ys = ap (λ (l : List ℕ). entry_bytes entry ++ l) (entries_append xs ys) ∙ sym (append_assoc (entry_bytes entry) (entries_bytes xs) (entries_bytes ys))

entries_split : (entries : List (Option Spot)) (n : ℕ) (new : Option Spot) → n < length entries → entries_bytes (set entries n new) ≡ entries_bytes (take n entries) ++ (entry_bytes new ++ entries_bytes (drop (suc n) entries))
unfolding entries_bytes
entries_split entries n new below = ap entries_bytes (set_split entries n new below) ∙ entries_append (take n entries) (new ∷ drop (suc n) entries)

put_block : (entry : Option Spot) (block : ℕ) (rest : List ℕ) → put_mid 0 4 (entry_bytes entry ++ rest) (bytes_high_first 4 block) ≡ bytes_high_first 4 block ++ drop 4 (entry_bytes entry ++ rest)
put_block None block rest = refl
put_block (Some spot) block rest = refl

put_slot : (entry : Option Spot) (block slot : ℕ) (rest : List ℕ) → put_mid 4 2 (bytes_high_first 4 block ++ drop 4 (entry_bytes entry ++ rest)) (bytes_high_first 2 slot) ≡ (bytes_high_first 4 block ++ bytes_high_first 2 slot ++ replicate 2 0) ++ rest
put_slot None block slot rest = refl
put_slot (Some spot) block slot rest = refl

entry_is : (spot : Spot) → spot.block < 4294967296 → spot.slot < 65536 → IsEntry (entry_for spot) × (bytes_high_first 4 spot.block ++ bytes_high_first 2 spot.slot ++ replicate 2 0 ≡ entry_bytes (entry_for spot))
entry_is spot big small = by (eqb (spot.block + spot.slot) 0) refl
  where
    by : (none : Bool) → eqb (spot.block + spot.slot) 0 ≡ none → IsEntry (cond none None (Some spot)) × (bytes_high_first 4 spot.block ++ bytes_high_first 2 spot.slot ++ replicate 2 0 ≡ entry_bytes (cond none None (Some spot)))
    by true e =
        let sum : spot.block + spot.slot ≡ 0 = eqb-true (spot.block + spot.slot) 0 e in
        let b : spot.block ≡ 0 = omega arith in
        let s : spot.slot ≡ 0 = omega arith in
        (tt, λ i. bytes_high_first 4 (b i) ++ bytes_high_first 2 (s i) ++ replicate 2 0)
    by false e = ((omega arith, omega arith, grind (arith, eqb-false (spot.block + spot.slot) 0 e)), refl)

are_entries_set : (entries : List (Option Spot)) (n : ℕ) (new : Option Spot) → AreEntries entries → IsEntry new → AreEntries (set entries n new)
are_entries_set [] n new are is = tt
are_entries_set (entry ∷ entries) zero new are is = (is, are.1)
are_entries_set (entry ∷ entries) (suc n) new are is = (are.0, are_entries_set entries n new are.1 is)

map_parts : (entries : List (Option Spot)) (page : List ℕ) → page ≡ map_bytes entries → page ≡ header 4 0 ++ entries_bytes entries
unfolding map_bytes
map_parts entries page e = e

map_whole : (entries : List (Option Spot)) (page : List ℕ) → page ≡ header 4 0 ++ entries_bytes entries → page ≡ map_bytes entries
unfolding map_bytes
map_whole entries page e = e

pub entry_set : (entries : List (Option Spot)) (n at : ℕ) (spot : Spot) (page mid new : List ℕ) → IsMap entries page → n < 1020 → at ≡ 32 + n * 8 → spot.block < 4294967296 → spot.slot < 65536 → mid ≡ put_at page at 4 spot.block → new ≡ put_at mid (at + 4) 2 spot.slot → IsMap (set entries n (entry_for spot)) new
entry_set entries n at spot page mid new map below place big small first second =
    let old = get_or entries n None in
    let front = header 4 0 ++ entries_bytes (take n entries) in
    let rest = entries_bytes (drop (suc n) entries) in
    let own = entry_is spot big small in
    let counted = map.counted in
    let split : page ≡ front ++ (entry_bytes old ++ rest) =
    map_parts entries page map.bytes
    ∙ ap (λ (l : List (Option Spot)). header 4 0 ++ entries_bytes l) (sym (set-get_or entries n None))
    ∙ ap (λ (l : List ℕ). header 4 0 ++ l) (entries_split entries n old (omega arith))
    ∙ sym (append_assoc (header 4 0) (entries_bytes (take n entries)) (entry_bytes old ++ rest)) in
    let long : length front ≡ at = omega (arith, length-append (header 4 0) (entries_bytes (take n entries)), length-entries (take n entries), length-take-le n entries (omega arith)) in
    let zero_at : at ≡ length front + 0 = omega arith in
    let written : mid ≡ front ++ (bytes_high_first 4 spot.block ++ drop 4 (entry_bytes old ++ rest)) =
    first ∙ put-part page at 4 spot.block
    ∙ (λ i. put_mid (zero_at i) 4 (split i) (bytes_high_first 4 spot.block))
    ∙ write_behind 0 4 front (entry_bytes old ++ rest) (bytes_high_first 4 spot.block)
    ∙ ap (λ (l : List ℕ). front ++ l) (put_block old spot.block rest) in
    let whole : new ≡ front ++ ((bytes_high_first 4 spot.block ++ bytes_high_first 2 spot.slot ++ replicate 2 0) ++ rest) =
    second ∙ put-part mid (at + 4) 2 spot.slot
    ∙ (λ i. put_mid (sym long i + 4) 2 (written i) (bytes_high_first 2 spot.slot))
    ∙ write_behind 4 2 front (bytes_high_first 4 spot.block ++ drop 4 (entry_bytes old ++ rest)) (bytes_high_first 2 spot.slot)
    ∙ ap (λ (l : List ℕ). front ++ l) (put_slot old spot.block spot.slot rest) in
    record {
      counted = length-set entries n (entry_for spot) ∙ map.counted;
      are = are_entries_set entries n (entry_for spot) map.are own.0;
      bytes = map_whole (set entries n (entry_for spot)) new
          (whole
          ∙ ap (λ (l : List ℕ). front ++ (l ++ rest)) own.1
          ∙ append_assoc (header 4 0) (entries_bytes (take n entries)) (entry_bytes (entry_for spot) ++ rest)
          ∙ ap (λ (l : List ℕ). header 4 0 ++ l) (sym (entries_split entries n (entry_for spot) (omega arith))));
    }
