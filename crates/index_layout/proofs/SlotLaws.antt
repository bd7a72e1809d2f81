-- What changes of slots leave at each slot, which slot is the lowest free one, and which tuples have room in it.
use Rattle.std.proofs.Common.{◌≡◌, ℕ, zero, suc, ◌+◌, ◌-◌, ◌<◌, ◌≤◌, inl, inr, Bool, true, false, cond, eqb, ltb, List, [], ◌∷◌, ◌++◌, length, get_or, refl, sym, ap, ◌∙◌, arith}
use Rattle.std.specs.Prelude.{None, Some}
use Rattle.std.proofs.lemmas.Bool.{cases_lt, eqb-true, eq-eqb, ltb-true, ltb-false, lt-ltb}
use Rattle.std.proofs.lemmas.Option.{slice_get_within, get_or_from_slice_get}
use Rattle.std.proofs.lemmas.List.{get_or-set_same, get_or-set_other, get_or_at, get_or_append_left, get_or_past, length_push}
use Rattle.index_layout.specs.IndexPages.{Slot}
use Rattle.index_layout.specs.IndexReading.{free_of, free_slot_of, slots_of}
use Rattle.index_layout.specs.IndexWrites.{put_in, before, trimmed, IsRoom, CanPut, room_for_further, room_on}
use Rattle.index_layout.proofs.PageWrites.{put_there, put_next}
use Rattle.index_layout.proofs.Dropping.{free_there}

pub put_here : (slots : List Slot) (n : ℕ) (tuple : List ℕ) → n ≤ length slots → get_or (put_in slots n tuple) n None ≡ Some tuple
put_here slots n tuple within =
    elim (cases_lt n (length slots)) [
      | inl lt ↦ ap (λ (l : List Slot). get_or l n None) (put_there slots n tuple lt) ∙ get_or-set_same slots n (Some tuple) None lt
      | inr le ↦ ap (λ (l : List Slot). get_or l n None) (put_next slots n tuple (omega arith)) ∙ get_or_at slots (Some tuple) [] None n (omega arith)
    ]

pushed_other : (slots : List Slot) (n m : ℕ) (tuple : List ℕ) → n ≡ length slots → (m ≡ n → ⊥) → get_or (slots ++ Some tuple ∷ []) m None ≡ get_or slots m None
pushed_other slots n m tuple is other =
    elim (cases_lt m (length slots)) [
      | inl lt ↦ get_or_append_left slots (Some tuple ∷ []) None m lt
      | inr le ↦ get_or_past (slots ++ Some tuple ∷ []) m None (omega (arith, length_push slots (Some tuple))) ∙ sym (get_or_past slots m None le)
    ]

pub put_others : (slots : List Slot) (n m : ℕ) (tuple : List ℕ) → n ≤ length slots → (m ≡ n → ⊥) → get_or (put_in slots n tuple) m None ≡ get_or slots m None
put_others slots n m tuple within other =
    elim (cases_lt n (length slots)) [
      | inl lt ↦ ap (λ (l : List Slot). get_or l m None) (put_there slots n tuple lt) ∙ get_or-set_other slots n m (Some tuple) None other
      | inr le ↦ ap (λ (l : List Slot). get_or l m None) (put_next slots n tuple (omega arith)) ∙ pushed_other slots n m tuple (omega arith) other
    ]

get_before : (slot : Slot) (rest slots : List Slot) → ((m : ℕ) → get_or rest m None ≡ get_or slots m None) → (m : ℕ) → get_or (before slot rest) m None ≡ get_or (slot ∷ slots) m None
get_before None [] slots same zero = refl
get_before None [] slots same (suc m) = same m
get_before None (next ∷ rest) slots same zero = refl
get_before None (next ∷ rest) slots same (suc m) = same m
get_before (Some tuple) rest slots same zero = refl
get_before (Some tuple) rest slots same (suc m) = same m

pub trimmed_same : (slots : List Slot) (m : ℕ) → get_or (trimmed slots) m None ≡ get_or slots m None
unfolding trimmed
trimmed_same [] m = refl
trimmed_same (slot ∷ slots) m = get_before slot (trimmed slots) slots (trimmed_same slots) m

pub lowest_free : (slots : List Slot) → get_or slots (free_slot_of slots) None ≡ None
unfolding free_slot_of
lowest_free [] = refl
lowest_free (None ∷ slots) = refl
lowest_free (Some tuple ∷ slots) = lowest_free slots

pub lower_used : (slots : List Slot) (n : ℕ) → n < free_slot_of slots → get_or slots n None ≡ None → ⊥
unfolding free_slot_of
lower_used [] n below free = absurd (omega arith)
lower_used (None ∷ slots) n below free = absurd (omega arith)
lower_used (Some tuple ∷ slots) zero below free = cc
lower_used (Some tuple ∷ slots) (suc n) below free = lower_used slots n (omega arith) free

pub lowest_within : (slots : List Slot) → free_slot_of slots ≤ length slots
unfolding free_slot_of
lowest_within [] = omega arith
lowest_within (None ∷ slots) = omega arith
lowest_within (Some tuple ∷ slots) = omega (arith, lowest_within slots)

room_there : (slots : List Slot) (size : ℕ) → 0 < size → size ≤ room_for_further slots → IsRoom slots (free_slot_of slots) size
room_there slots size some room = by (ltb (free_slot_of slots) (length slots)) refl room
  where
    by : (t : Bool) → ltb (free_slot_of slots) (length slots) ≡ t → size ≤ cond t (free_of slots) (free_of slots - 4) → IsRoom slots (free_slot_of slots) size
    by true e le = inl (free_there slots (free_slot_of slots) (ltb-true (free_slot_of slots) (length slots) e) (lowest_free slots), le)
    by false e le =
        let past = ltb-false (free_slot_of slots) (length slots) e in
        let within = lowest_within slots in
        inr (omega arith, omega arith)

further_small : (t : Bool) (free size : ℕ) → size + 4 ≤ free → size ≤ cond t free (free - 4)
further_small true free size le = omega arith
further_small false free size le = omega arith

room_least : (slots : List Slot) (n size : ℕ) → IsRoom slots n size → size ≤ room_for_further slots
room_least slots n size (inr next) = further_small (ltb (free_slot_of slots) (length slots)) (free_of slots) size next.1
room_least slots n size (inl (there, le)) =
    let here : get_or slots n None ≡ None = get_or_from_slice_get slots n None None there in
    let within = slice_get_within slots n None there in
    elim (cases_lt n (free_slot_of slots)) [
      | inl lt ↦ absurd (lower_used slots n lt here)
      | inr past ↦ (let most : ltb (free_slot_of slots) (length slots) ≡ true = lt-ltb (free_slot_of slots) (length slots) (omega arith) in
          let same : room_for_further slots ≡ free_of slots = ap (λ (t : Bool). cond t (free_of slots) (free_of slots - 4)) most in
          omega arith)
    ]

pub page_takes : (page : List ℕ) (size : ℕ) → 0 < size → size ≤ room_on page → CanPut page (free_slot_of (slots_of page)) size
page_takes page size some room = by (eqb (get_or page 0 0) 5) refl room
  where
    by : (t : Bool) → eqb (get_or page 0 0) 5 ≡ t → size ≤ cond t (room_for_further (slots_of page)) 0 → CanPut page (free_slot_of (slots_of page)) size
    by true e le = (eqb-true (get_or page 0 0) 5 e, some, room_there (slots_of page) size some le)
    by false e le = absurd (omega arith)

pub taken_by_page : (page : List ℕ) (n size : ℕ) → CanPut page n size → size ≤ room_on page
taken_by_page page n size (five, some, room) =
    let same : room_on page ≡ room_for_further (slots_of page) = ap (λ (t : Bool). cond t (room_for_further (slots_of page)) 0) (eq-eqb (get_or page 0 0) 5 five) in
    let least = room_least (slots_of page) n size room in
    omega (arith, same, least)
