-- What the slots of a page come to: none where no tuple stands there, those of a list where they are its; and what a put makes of the room.
use Rattle.std.proofs.Common.{◌≡◌, ◌≢◌, inl, inr, ℕ, zero, suc, ◌+◌, ◌-◌, ◌*◌, ◌≤◌, ◌<◌, Bool, true, false, if◌then◌else◌, List, [], ◌∷◌, length, Some, None, refl, sym, ◌∙◌, ap, arith}
use Rattle.std.specs.Prelude.{nat_lt, slice_index_or}
use Rattle.std.proofs.Math.Nat.{add-mul, suc-mul}
use Rattle.std.proofs.lemmas.Bool.{cases_lt, le-ltb, lt-ltb}
use Rattle.index_layout.specs.IndexPages.{IsLastUsed, Slot, taken}
use Rattle.index_layout.specs.IndexReading.{free_of, free_slot_of}
use Rattle.index_layout.specs.IndexWrites.{before, room_for_further, trimmed}
use Rattle.block_model.specs.declared.place.Spot.{Spot}
use Rattle.coverage.specs.Rooms.{HasTuplesWithin, first_slots, page_room, slots_on}

pub first_same : (f g : ℕ → Slot) (n : ℕ) → ((k : ℕ) → g k ≡ f k) → first_slots g n ≡ first_slots f n
first_same f g n same = ap (λ h. first_slots h n) (λ i k. same k i)

-- no slot has a tuple
pub no_slots : (f : ℕ → Slot) (n : ℕ) → ((k : ℕ) → f k ≡ None) → trimmed (first_slots f n) ≡ []
unfolding trimmed first_slots
no_slots f zero none = refl
no_slots f (suc n) none = ap (before (f 0)) (no_slots (λ k. f (suc k)) n (λ k. none (suc k))) ∙ ap (λ (s : Slot). before s []) (none 0)

front : (slot next : Slot) (slots : List Slot) → before slot (next ∷ slots) ≡ slot ∷ next ∷ slots
front None next slots = refl
front (Some t) next slots = refl

-- the slots of a list whose last one isn't free
pub slots_of_list : (slots : List Slot) (n : ℕ) → length slots ≤ n → IsLastUsed slots → trimmed (first_slots (λ k. slice_index_or slots k None) n) ≡ slots
unfolding trimmed first_slots
slots_of_list [] n few last = no_slots (λ k. None) n (λ k. refl)
slots_of_list (slot ∷ slots) zero few last = absurd (omega (arith, few))
slots_of_list (None ∷ []) (suc n) few last = absurd last
slots_of_list (Some t ∷ []) (suc n) few last = ap (before (Some t)) (no_slots (λ k. None) n (λ k. refl))
slots_of_list (slot ∷ next ∷ slots) (suc n) few last = ap (before slot) (slots_of_list (next ∷ slots) n (omega (arith, few)) last) ∙ front slot next slots

-- a directory entry for a slot that is new
abbrev new_entry : List Slot → ℕ
new_entry slots = if nat_lt (free_slot_of slots) (length slots) then 0 else 4

both_less : (a b : ℕ) → nat_lt (suc a) (suc b) ≡ nat_lt a b
both_less a b = elim (cases_lt a b) [
  | inl less ↦ lt-ltb (suc a) (suc b) (omega (arith, less)) ∙ sym (lt-ltb a b less)
  | inr past ↦ le-ltb (suc a) (suc b) (omega (arith, past)) ∙ sym (le-ltb a b past)
]

behind : (tuple bytes : List ℕ) (old new : List Slot) → taken new ≡ taken old + length bytes + new_entry old
    → taken (Some tuple ∷ new) ≡ taken (Some tuple ∷ old) + length bytes + new_entry (Some tuple ∷ old)
unfolding taken free_slot_of
behind tuple bytes old new is =
    more (length tuple) (taken old) (taken new) (length bytes) (nat_lt (free_slot_of old) (length old)) is
    ∙ ap (λ (gap : Bool). 4 + length tuple + taken old + length bytes + (if gap then 0 else 4)) (sym (both_less (free_slot_of old) (length old)))
  where
    more : (first old new size : ℕ) (gap : Bool) → new ≡ old + size + (if gap then 0 else 4) → 4 + first + new ≡ 4 + first + old + size + (if gap then 0 else 4)
    more first old new size true is = omega (arith, is)
    more first old new size false is = omega (arith, is)

here : (bytes : List ℕ) (slots : List Slot) → taken (Some bytes ∷ slots) ≡ taken (before None slots) + length bytes + new_entry (before None slots)
unfolding taken free_slot_of
here bytes [] = omega arith
here bytes (slot ∷ slots) =
    omega arith
    ∙ ap (λ (less : Bool). 4 + 0 + taken (slot ∷ slots) + length bytes + (if less then 0 else 4)) (sym (lt-ltb 0 (suc (suc (length slots))) (omega arith)))

-- bytes come to the lowest free slot
put_taken : (f g : ℕ → Slot) (n k : ℕ) (bytes : List ℕ) → k < n → f k ≡ None → ((j : ℕ) → j < k → f j ≢ None) → g k ≡ Some bytes → ((j : ℕ) → j ≢ k → g j ≡ f j)
    → taken (trimmed (first_slots g n)) ≡ taken (trimmed (first_slots f n)) + length bytes + new_entry (trimmed (first_slots f n))
unfolding trimmed first_slots
put_taken f g zero k bytes below free lower now others = absurd (omega (arith, below))
put_taken f g (suc n) zero bytes below free lower now others =
    ap taken (ap (λ (s : Slot). before s (trimmed (first_slots (λ k. g (suc k)) n))) now
    ∙ ap (λ (l : List Slot). Some bytes ∷ trimmed l) (first_same (λ k. f (suc k)) (λ k. g (suc k)) n (λ j. others (suc j) (λ is. absurd (omega (arith, is))))))
    ∙ here bytes (trimmed (first_slots (λ k. f (suc k)) n))
    ∙ ap (λ (s : Slot). taken (before s (trimmed (first_slots (λ k. f (suc k)) n))) + length bytes + new_entry (before s (trimmed (first_slots (λ k. f (suc k)) n)))) (sym free)
put_taken f g (suc n) (suc k) bytes below free lower now others = on (f 0) refl
    (put_taken (λ j. f (suc j)) (λ j. g (suc j)) n k bytes (omega (arith, below)) free (λ j low. lower (suc j) (omega (arith, low))) now
    (λ j apart. others (suc j) (λ is. apart (omega (arith, is)))))
  where
    on : (s : Slot) → f 0 ≡ s
        → taken (trimmed (first_slots (λ j. g (suc j)) n)) ≡ taken (trimmed (first_slots (λ j. f (suc j)) n)) + length bytes + new_entry (trimmed (first_slots (λ j. f (suc j)) n))
        → taken (before (g 0) (trimmed (first_slots (λ j. g (suc j)) n)))
        ≡ taken (before (f 0) (trimmed (first_slots (λ j. f (suc j)) n))) + length bytes + new_entry (before (f 0) (trimmed (first_slots (λ j. f (suc j)) n)))
    on None is rest = absurd (lower 0 (omega arith) is)
    on (Some tuple) is rest =
        ap (λ (s : Slot). taken (before s (trimmed (first_slots (λ j. g (suc j)) n)))) (others 0 (λ e. absurd (omega (arith, e))) ∙ is)
        ∙ behind tuple bytes (trimmed (first_slots (λ j. f (suc j)) n)) (trimmed (first_slots (λ j. g (suc j)) n)) rest
        ∙ ap (λ (s : Slot). taken (before s (trimmed (first_slots (λ j. f (suc j)) n))) + length bytes + new_entry (before s (trimmed (first_slots (λ j. f (suc j)) n)))) (sym is)

as_much : (used now size : ℕ) (gap : Bool) → now ≡ used + size + (if gap then 0 else 4) → size ≤ (if gap then 8160 - used else 8160 - used - 4)
    → (8160 - now) + size ≡ (if gap then 8160 - used else 8160 - used - 4)
as_much used now size true is fits = omega (arith, is, fits)
as_much used now size false is fits = omega (arith, is, fits)

-- in place of what was put, as much may stand as had room before
pub put_room : (f g : ℕ → Slot) (n k : ℕ) (bytes : List ℕ) → k < n → f k ≡ None → ((j : ℕ) → j < k → f j ≢ None) → g k ≡ Some bytes → ((j : ℕ) → j ≢ k → g j ≡ f j)
    → length bytes ≤ room_for_further (trimmed (first_slots f n)) → free_of (trimmed (first_slots g n)) + length bytes ≡ room_for_further (trimmed (first_slots f n))
put_room f g n k bytes below free lower now others fits =
    let old = trimmed (first_slots f n) in
    as_much (taken old) (taken (trimmed (first_slots g n))) (length bytes) (nat_lt (free_slot_of old) (length old)) (put_taken f g n k bytes below free lower now others) fits

-- a slot with no more than so many bytes takes no more than that and its entry
front_taken : (slot : Slot) (slots : List Slot) (most : ℕ) → ((tuple : List ℕ) → slot ≡ Some tuple → length tuple ≤ most) → taken (before slot slots) ≤ (most + 4) + taken slots
unfolding taken
front_taken None [] most few = omega arith
front_taken None (next ∷ slots) most few = omega arith
front_taken (Some tuple) slots most few = omega (arith, few tuple refl)

taken_most : (f : ℕ → Slot) (slots n most : ℕ) → ((k : ℕ) → slots ≤ k → f k ≡ None) → ((k : ℕ) (tuple : List ℕ) → f k ≡ Some tuple → length tuple ≤ most)
    → taken (trimmed (first_slots f n)) ≤ slots * (most + 4)
unfolding taken trimmed first_slots
taken_most f zero n most none few = let is : taken (trimmed (first_slots f n)) ≡ 0 = ap taken (no_slots f n (λ k. none k (omega arith))) in omega (arith, is)
taken_most f (suc slots) zero most none few = omega arith
taken_most f (suc slots) (suc n) most none few =
    let rest = taken_most (λ k. f (suc k)) slots n most (λ k above. none (suc k) (omega (arith, above))) (λ k. few (suc k)) in
    let one = front_taken (f 0) (trimmed (first_slots (λ k. f (suc k)) n)) most (few 0) in
    omega (arith, rest, one, suc-mul slots (most + 4))

room_left : (used slots most : ℕ) (gap : Bool) → used ≤ slots * (most + 4) → (slots + 1) * (most + 4) ≤ 8160 → most ≤ (if gap then 8160 - used else 8160 - used - 4)
room_left used slots most true few fits = omega (arith, few, fits, add-mul slots 1 (most + 4))
room_left used slots most false few fits = omega (arith, few, fits, add-mul slots 1 (most + 4))

pub room_within : (bytes : Spot → Slot) (page slots most : ℕ) → HasTuplesWithin bytes page slots most → (slots + 1) * (most + 4) ≤ 8160 → most ≤ page_room bytes page
room_within bytes page slots most within fits =
    let list = slots_on bytes page in
    room_left (taken list) slots most (nat_lt (free_slot_of list) (length list)) (taken_most (λ k. bytes (record { block = page; slot = k })) slots 2040 most within.none within.few) fits
