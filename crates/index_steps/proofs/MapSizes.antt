-- how long the tuples of a page are
use Rattle.std.proofs.Common.{◌≡◌, ℕ, zero, suc, ◌+◌, ◌<◌, ◌≤◌, Bool, true, false, List, [], ◌∷◌, length, refl, sym, ap, subst, ◌∙◌, arith}
use Rattle.std.specs.Prelude.{drop, slice_index, slice_index_or, None, Some, if◌then◌else◌}
use Rattle.std.proofs.lemmas.List.{get_or_past}
use Rattle.std.proofs.lemmas.Option.{none-some}
use Rattle.index_layout.specs.IndexPages.{AreSlots, IsRegular, IsSlot, Slot, taken, tuple_bytes}
use Rattle.index_layout.specs.IndexReading.{is_regular, number_at, slots_in, slots_of}
use Rattle.index_contents.specs.IndexContents.{tuple_on}

-- a tuple isn't empty, and takes room
sized_in : (list : List Slot) → AreSlots list → (slot : ℕ) (bytes : List ℕ) → slice_index_or list slot None ≡ Some bytes → (0 < length bytes) × (length bytes + 4 ≤ taken list)
unfolding taken
sized_in [] are slot bytes used = absurd (none-some bytes (sym (get_or_past {X = Slot} [] slot None (omega arith)) ∙ used))
sized_in (first ∷ list) are zero bytes used =
    let long : length (tuple_bytes first) ≡ length bytes = ap (λ (s : Slot). length (tuple_bytes s)) used in
    (subst IsSlot used are.0, omega (arith, long))
sized_in (first ∷ list) are (suc slot) bytes used =
    let rest = sized_in list are.1 slot bytes used in
    (rest.0, omega (arith, rest.1))

slots_none : (page : List ℕ) → is_regular (slice_index page 0) ≡ false → slots_of page ≡ []
unfolding slots_of
slots_none page e = ap (λ t. if t then slots_in page (number_at page 2 2) (drop 32 page) else []) e

pub sized : (page : List ℕ) (slot : ℕ) (bytes : List ℕ) → (is_regular (slice_index page 0) ≡ true → IsRegular (slice_index page 0) (slots_of page) page) → tuple_on page slot ≡ Some bytes → (0 < length bytes) × (length bytes + 4 ≤ 8160)
sized page slot bytes regular used = on (is_regular (slice_index page 0)) refl
  where
    on : (b : Bool) → is_regular (slice_index page 0) ≡ b → (0 < length bytes) × (length bytes + 4 ≤ 8160)
    on true is =
        let sizes = sized_in (slots_of page) (regular is).has.fit.are slot bytes used in
        let room : taken (slots_of page) ≤ 8160 = (regular is).has.fit.room in
        (sizes.0, omega (arith, sizes.1, room))
    on false is = absurd (none-some bytes (sym (ap (λ (l : List Slot). slice_index_or l slot None) (slots_none page is) ∙ get_or_past {X = Slot} [] slot None (omega arith)) ∙ used))
