-- the slots of a page, by what the index has, are those of its bytes; so is their room
use Rattle.std.specs.Prelude.{◌≡◌, ℕ, ◌+◌, ◌*◌, ◌≤◌, ◌==◌, Bool, true, false, List, [], ◌∷◌, length, slice_index, slice_index_or, drop, Some, if◌then◌else◌}
use Rattle.std.proofs.Common.{refl, sym, ap, subst, ◌∙◌, arith}
use Rattle.block_model.specs.declared.place.Spot.{Spot}
use Rattle.index_layout.specs.declared.format.TheConstants.{REGULAR}
use Rattle.index_layout.specs.IndexPages.{IsIndexPage, IsLastUsed, Slot, taken, tuple_bytes}
use Rattle.index_layout.specs.IndexReading.{free_of, is_regular, number_at, slots_in, slots_of}
use Rattle.index_layout.specs.IndexWrites.{room_for_further, room_on, trimmed}
use Rattle.index_layout.proofs.Reading.{regular_of}
use Rattle.coverage.specs.Rooms.{first_slots, page_room, place_room, slots_on}
use Rattle.coverage.proofs.PageRooms.{slots_of_list}
use Rattle.index_contents.specs.IndexContents.{beside, contents_in, room_in_place, tuple_on}

-- a slot takes four bytes of the directory
pub four_each : (list : List Slot) → 4 * length list ≤ taken list
unfolding taken
four_each [] = omega arith
four_each (slot ∷ list) = omega (arith, four_each list)

-- a page that isn't one of tuples has no slots
pub slots_none : (page : List ℕ) → is_regular (slice_index page 0) ≡ false → slots_of page ≡ []
unfolding slots_of
slots_none page is = ap (λ t. if t then slots_in page (number_at page 2 2) (drop 32 page) else []) is

-- the slots of a page are few, and the last one isn't free
record AreTrimmed (slots : List Slot) : Type 0 where
  few : length slots ≤ 2040
  last : IsLastUsed slots

are_trimmed : (page : List ℕ) → IsIndexPage page → AreTrimmed (slots_of page)
are_trimmed page index = on (is_regular (slice_index page 0)) refl
  where
    few_of : (list : List Slot) → taken list ≤ 8160 → length list ≤ 2040
    few_of list fits = omega (arith, four_each list, fits)

    on : (b : Bool) → is_regular (slice_index page 0) ≡ b → AreTrimmed (slots_of page)
    on true is = let regular = regular_of page 8192 refl index is in record { few = few_of (slots_of page) regular.has.fit.room; last = regular.last }
    on false is = let none = slots_none page is in subst AreTrimmed (sym none) (record { few = omega arith; last = tt })

module _ (limit : ℕ) (page : ℕ → List ℕ) (block : ℕ) (index : IsIndexPage (page block)) where
  pub slots_there : slots_on (contents_in limit page).bytes block ≡ slots_of (page block)
  slots_there = let are = are_trimmed (page block) index in slots_of_list (slots_of (page block)) 2040 are.few are.last

  pub page_room_there : slice_index (page block) 0 ≡ REGULAR → page_room (contents_in limit page).bytes block ≡ room_on (page block)
  page_room_there is = ap room_for_further slots_there ∙ sym (ap (λ (k : ℕ). if k == REGULAR then room_for_further (slots_of (page block)) else 0) is)

  pub place_room_there : (slot : ℕ) (tuple : List ℕ) → slice_index (page block) 0 ≡ REGULAR → tuple_on (page block) slot ≡ Some tuple
      → place_room (contents_in limit page).bytes (record { block = block; slot = slot }) ≡ room_in_place (page block) slot
  place_room_there slot tuple is stands =
      ap (λ (l : List Slot). free_of l + length (tuple_bytes (tuple_on (page block) slot))) slots_there
      ∙ ap (λ (s : Slot). free_of (slots_of (page block)) + length (tuple_bytes s)) stands
      ∙ sym (ap (λ (s : Slot). beside (free_of (slots_of (page block))) s) stands)
      ∙ sym (ap (λ (k : ℕ). if k == REGULAR then beside (free_of (slots_of (page block))) (tuple_on (page block) slot) else 0) is)
