-- The room of a page, by its lowest free slot.
use Rattle.std.proofs.Common.{◌≡◌, ℕ, ◌&&◌, inl, inr, Bool, true, false, cond, eqb, List, get_or, refl, sym, ap, ◌∙◌, arith}
use Rattle.std.specs.Prelude.{Option, None, Some, ◌==◌, nat_le}
use Rattle.std.proofs.lemmas.Bool.{and_parts, eq-eqb, eqb-true, le-leb, leb-true}
use Rattle.std.proofs.lemmas.Option.{slice_get-get_or, slice_get_within}
use Rattle.page_redo.specs.TheConstants.{REGULAR}
use Rattle.page_redo.specs.IndexWrites.{room_on}
use Rattle.page_redo.specs.Form.{Form}
use Rattle.page_redo.specs.Form.TheVariants as forms
use Rattle.page_redo.specs.FreeSlots.{lowest_free}
use Rattle.page_redo.specs.PageContents.{HasSlot, HasSlots, IsPageOf, Slot}
use Rattle.page_redo.specs.PageWrites.{IsOfIndex}
use Rattle.page_redo.specs.SlotLaws.{free_found, free_slot, lowest_is}
use Rattle.page_redo.specs.SlotsOnPage.{lowest_on}
use Rattle.page_redo.specs.Redo.{IsFreeSlot}
use Rattle.page_map.specs.FirstRoom.{IsLookedAt, PageHasRoom}
use Rattle.page_map.specs.Lowest.{has_slot}
use Rattle.page_map.proofs.FactsKept.{OneList, lowest_started}
use Rattle.page_map.proofs.PageKinds.{lowest-unstarted}

-- a page that has a lowest free slot

free_on_slots : (form : Form) (page : List ℕ) (slots : List Slot) (slot : ℕ) → HasSlots form page slots → lowest_free slots ≡ Some slot → IsFreeSlot form page slot
free_on_slots form page slots slot has lowest =
    let is = lowest_is slots slot lowest in
    (slots, has, slice_get-get_or slots slot None is.within ∙ ap Some (free_slot (get_or slots slot None) is.free))

-- a page without slots of rows has none
no_slots : (slot : ℕ) (b : Bool) → cond b None None ≡ Some slot → ⊥
no_slots slot true e = absurd cc
no_slots slot false e = absurd cc

pub free_there : OneList → (form : Form) (page : List ℕ) (slot : ℕ) → IsPageOf form page → lowest_on form page ≡ Some slot → IsFreeSlot form page slot
free_there one form page slot (inl zeros) lowest = absurd (let none = lowest-unstarted form page zeros in cc)
free_there one forms.Status page slot (inr started) lowest = absurd (no_slots slot (eqb (get_or page 0 0) 0) lowest)
free_there one (forms.Heap row count kinds format) page slot (inr started) lowest =
    let form = forms.Heap row count kinds format in
    free_on_slots form page started.0 slot started.1 (lowest_started form page started.0 started.1 (one form page started.0 started.1) ∙ lowest)
free_there one forms.Index page slot (inr started) lowest = absurd (no_slots slot (eqb (get_or page 0 0) 0) lowest)

-- one that has a free slot has a lowest one
pub free_not_none : OneList → (form : Form) (page : List ℕ) (slot : ℕ) → IsFreeSlot form page slot → lowest_on form page ≡ None → ⊥
free_not_none one form page slot free none =
    free_found free.0 slot free.2 (lowest_started form page free.0 free.1 (one form page free.0 free.1) ∙ none)

-- the slot is one of the pages of the form
pub slot_there : (form : Form) (page : List ℕ) (slot : ℕ) → IsFreeSlot form page slot → HasSlot form slot
slot_there forms.Status page slot free = absurd free.1
slot_there (forms.Heap row count kinds format) page slot free = let within = slice_get_within free.0 slot None free.2 in omega (arith, within, free.1.counted)
slot_there forms.Index page slot free = absurd free.1

-- every block of a heap is looked at
pub heap_looked_at : (form : Form) (page : List ℕ) (past slot block : ℕ) → IsFreeSlot form page slot → IsLookedAt form past block
heap_looked_at forms.Status page past slot block free = tt
heap_looked_at (forms.Heap row count kinds format) page past slot block free = tt
heap_looked_at forms.Index page past slot block free = absurd free.1

-- by the test

has_found : (o : Option ℕ) → has_slot o ≡ true → (slot : ℕ) × (o ≡ Some slot)
has_found None e = absurd cc
has_found (Some slot) e = (slot, refl)

has_none : (o : Option ℕ) → has_slot o ≡ false → o ≡ None
has_none None e = refl
has_none (Some slot) e = absurd cc

-- a page of statuses or of a heap has room where a slot is free
pub room_of_slot : (form : Form) (need : ℕ) (page : List ℕ) → (IsOfIndex form → ⊥) → (slot : ℕ) → IsFreeSlot form page slot → PageHasRoom form need page
room_of_slot forms.Status need page rows slot free = (slot, free)
room_of_slot (forms.Heap row count kinds format) need page rows slot free = (slot, free)
room_of_slot forms.Index need page rows slot free = absurd (rows tt)

slot_of_room : (form : Form) (need : ℕ) (page : List ℕ) → (IsOfIndex form → ⊥) → PageHasRoom form need page → (slot : ℕ) × IsFreeSlot form page slot
slot_of_room forms.Status need page rows room = room
slot_of_room (forms.Heap row count kinds format) need page rows room = room
slot_of_room forms.Index need page rows room = absurd (rows tt)

pub slot_found : OneList → (form : Form) (page : List ℕ) → IsPageOf form page → has_slot (lowest_on form page) ≡ true → (slot : ℕ) × IsFreeSlot form page slot
slot_found one form page of_form has =
    let found = has_found (lowest_on form page) has in
    (found.0, free_there one form page found.0 of_form found.1)

pub room_lower : OneList → (form : Form) (need : ℕ) (page : List ℕ) → (IsOfIndex form → ⊥) → has_slot (lowest_on form page) ≡ false → PageHasRoom form need page → ⊥
room_lower one form need page rows none room =
    let free = slot_of_room form need page rows room in
    free_not_none one form page free.0 free.1 (has_none (lowest_on form page) none)

-- a page of an index has room for a tuple that isn't greater than its room, if it is of tuples
pub tuple_room : (need kind room : ℕ) (page : List ℕ) → kind ≡ get_or page 0 0 → room ≡ room_on page → (kind == REGULAR) && nat_le need room ≡ true → PageHasRoom forms.Index need page
tuple_room need kind room page of is takes =
    let parts = and_parts (kind == REGULAR) (nat_le need room) takes in
    (sym of ∙ eqb-true kind REGULAR parts.0, omega (arith, is, leb-true need room parts.1))

pub no_tuple : (need kind room : ℕ) (page : List ℕ) → kind ≡ get_or page 0 0 → room ≡ room_on page → (kind == REGULAR) && nat_le need room ≡ false → PageHasRoom forms.Index need page → ⊥
no_tuple need kind room page of is takes some =
    let both : (kind == REGULAR) && nat_le need room ≡ true = λ i. eq-eqb kind REGULAR (of ∙ some.0) i && le-leb need room (omega (arith, is, some.1)) i in
    absurd cc

-- the room of a page by its lowest slot

pub lowest_same : OneList → (form : Form) (page : List ℕ) (o : Option ℕ) → lowest_on form page ≡ o → (slots : List Slot) → HasSlots form page slots → lowest_free slots ≡ o
lowest_same one form page o lowest slots has = lowest_started form page slots has (one form page slots has) ∙ lowest
