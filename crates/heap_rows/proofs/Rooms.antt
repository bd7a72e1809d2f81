-- The room on a page, and what a change of a page does.
use Rattle.std.proofs.Common.{◌≡◌, ℕ, ◌<◌, inl, inr, List, [], ◌∷◌, length, set, refl, sym, ap, subst, ◌∙◌, arith}
use Rattle.std.specs.Prelude.{None, Some, replicate}
use Rattle.std.proofs.lemmas.List.{get_or-replicate, length-replicate}
use Rattle.std.proofs.lemmas.Option.{slice_get-get_or}
use Rattle.block_model.specs.declared.place.Place.{Place}
use Rattle.page_layout.specs.declared.page.Form.{Form}
use Rattle.page_layout.specs.declared.page.Form.TheVariants as forms
use Rattle.page_layout.specs.PageContents.{Slot, HasSlots, IsRowOf, IsUnstarted}
use Rattle.page_layout.specs.PageWrites.{IsEmptyHeap, IsOfHeap}
use Rattle.page_layout.specs.FreeSlots.{slot_count, lowest_free}
use Rattle.page_layout.specs.SlotLaws.{free_found, started_not}
use Rattle.page_map.specs.Redo.{IsFreeSlot, Redone}
use Rattle.page_map.specs.Changed.{redone_once, redone_twice}
use Rattle.page_map.specs.Forms.{FitInTurn}
use Rattle.wal_record.specs.Changes.{PageStart, RowPut}
use Rattle.heap_rows.specs.RoomOnPage.{PageTakesRow, HasSlotsOnceStarted, PutsBytes}
use Rattle.heap_rows.proofs.Places.{first_of_empty}

-- a page without room takes no row
pub no_row : (form : Form) (page : List ℕ) → PageTakesRow form page → (IsUnstarted page → ⊥) → ((slots : List Slot) → HasSlots form page slots → lowest_free slots ≡ None) → ⊥
no_row form page (inl zeros) started none = started zeros
no_row form page (inr free) started none = free_found free.1.0 free.0 free.1.2 (none free.1.0 free.1.1)

-- the slots that a start gives a page
pub empty_has : (form : Form) (page : List ℕ) → IsEmptyHeap form page → HasSlots form page (replicate (slot_count form) None)
empty_has forms.Status page empty = absurd empty
empty_has (forms.Heap row count ks format) page empty = empty
empty_has forms.Index page empty = absurd empty

-- the first slot of a page that was just started
pub first_free : (form : Form) (page : List ℕ) → IsEmptyHeap form page → 0 < slot_count form → IsFreeSlot form page 0
first_free form page empty some =
    let slots : List Slot = replicate (slot_count form) None in
    let long : length slots ≡ slot_count form = length-replicate {A = Slot} (slot_count form) None in
    (slots, empty_has form page empty, slice_get-get_or slots 0 None (omega arith) ∙ ap Some (get_or-replicate {A = Slot} (slot_count form) 0 None None some))

-- a page takes a start and a row
pub start_fits : (form : Form) (page : List ℕ) (place : Place) (bytes : List ℕ) → IsOfHeap form → 0 < slot_count form → IsRowOf form bytes → FitInTurn form page (PageStart place 2 ∷ RowPut place 0 bytes ∷ [])
start_fits form page place bytes heap some row = ((heap, refl), λ next empty. ((first_free form next empty some, row), λ last made. tt))

-- a page that isn't started has the slots that a start gives it, and no others
pub once_unstarted : (form : Form) (page : List ℕ) (slots : List Slot) → IsUnstarted page → HasSlotsOnceStarted form page slots → slots ≡ replicate (slot_count form) None
once_unstarted form page slots zeros (inl has) = absurd (started_not form page slots has zeros)
once_unstarted form page slots zeros (inr empty) = empty.1

-- a row is put into a page that is started
pub puts_bytes : (form : Form) (old : List ℕ) (place : Place) (bytes : List ℕ) (slot : ℕ) (new : List ℕ) → IsFreeSlot form old slot → ((slots : List Slot) → HasSlots form old slots → lowest_free slots ≡ Some slot) → Redone form old (RowPut place slot bytes ∷ []) new
    → PutsBytes form bytes old slot new
puts_bytes form old place bytes slot new free lowest redone = λ row has slots once.
    let means = redone_once form old (RowPut place slot bytes) new redone in
    elim once [
      | inl there ↦ (lowest slots there, means slots row there has)
      | inr empty ↦ absurd (started_not form old free.0 free.1 empty.0)
    ]

-- and into one that is started for it
pub starts_bytes : (form : Form) (old : List ℕ) (place : Place) (bytes : List ℕ) (new : List ℕ) → IsUnstarted old → 0 < slot_count form → Redone form old (PageStart place 2 ∷ RowPut place 0 bytes ∷ []) new → PutsBytes form bytes old 0 new
starts_bytes form old place bytes new zeros some redone = λ row has slots once.
    let made = redone_twice form old (PageStart place 2) (RowPut place 0 bytes) new redone in
    let all = once_unstarted form old slots zeros once in (
      ap lowest_free all ∙ first_of_empty (slot_count form) some,
      subst (λ (s : List Slot). HasSlots form new (set s 0 (Some row))) (sym all) (made.2 (replicate (slot_count form) None) row (empty_has form made.0 made.1) has),
    )
