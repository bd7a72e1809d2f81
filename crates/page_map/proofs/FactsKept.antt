-- What is kept of a page after a put and after a mark.
use Rattle.std.proofs.Common.{◌≡◌, ℕ, cond, eqb, ltb, List, get_or, set, refl, sym, ap, subst, ◌∙◌, arith}
use Rattle.std.specs.Prelude.{Option, None, Some, slice_get}
use Rattle.std.proofs.lemmas.List.{length-set}
use Rattle.std.proofs.lemmas.List.Folds.{position_or_len-set}
use Rattle.std.proofs.lemmas.Option.{get_or_from_slice_get}
use Rattle.block_model.specs.declared.place.Place.{Place}
use Rattle.page_redo.specs.IndexReading.{map_pages_of}
use Rattle.page_redo.specs.IndexWrites.{room_on}
use Rattle.page_redo.specs.Form.{Form}
use Rattle.page_redo.specs.FreeSlots.{AreUsedBelow, is_free, lowest_free, lowest_free_from}
use Rattle.page_redo.specs.PageContents.{Slot, HasSlots}
use Rattle.page_redo.specs.PageWrites.{marked}
use Rattle.page_redo.specs.RowBytes.{StoredRow}
use Rattle.page_redo.specs.SlotLaws.{heap_front, lowest_from, lowest_is, row_has, used_up_to}
use Rattle.page_redo.specs.SlotsOnPage.{lowest_on, slots_on}
use Rattle.page_redo.specs.Changes.{RowPut, RowMark}
use Rattle.page_map.specs.declared.facts.PageFacts.{PageFacts}
use Rattle.page_map.specs.PageFacts.{HasPutInto, IsMadeFrom, facts_on}
use Rattle.page_map.proofs.PageKinds.{kind_without_maps, kind_without_room}

-- the slots of a page are those that are read of its bytes
abbrev pub OneList : Type 0
OneList = (form : Form) (page : List ℕ) (slots : List Slot) → HasSlots form page slots → slots ≡ slots_on form page

-- the lowest free slot of a page that has slots
pub lowest_started : (form : Form) (page : List ℕ) (slots : List Slot) → HasSlots form page slots → slots ≡ slots_on form page → lowest_free slots ≡ lowest_on form page
lowest_started form page slots has same =
    ap lowest_free same ∙ ap (λ (k : ℕ). cond (eqb k 0) None (lowest_free (slots_on form page))) (sym (heap_front form page slots has))

same-kind : (form : Form) (before page : List ℕ) (slots others : List Slot) (facts : PageFacts) → facts ≡ facts_on form before → HasSlots form before slots → HasSlots form page others → facts.kind ≡ get_or page 0 0
same-kind form before page slots others facts known has had =
    ap (λ (f : PageFacts). f.kind) known ∙ heap_front form before slots has ∙ sym (heap_front form page others had)

-- a heap page takes no tuple
pub heap-room : (form : Form) (page : List ℕ) (slots : List Slot) → HasSlots form page slots → 0 ≡ room_on page
heap-room form page slots has = kind_without_room page 2 (heap_front form page slots has) refl

-- and counts no page of the map
pub heap-maps : (form : Form) (page : List ℕ) (slots : List Slot) → HasSlots form page slots → 0 ≡ map_pages_of page
heap-maps form page slots has = kind_without_maps page 2 (heap_front form page slots has) refl

-- a put

pub put-kind : (form : Form) (place : Place) (slot : ℕ) (bytes page : List ℕ) (facts : PageFacts) → IsMadeFrom form facts (RowPut place slot bytes) page → facts.kind ≡ get_or page 0 0
put-kind form place slot bytes page facts made =
    let row = row_has form bytes made.fits.1 in
    let slots = made.fits.0.0 in
    same-kind form made.before page slots (set slots slot (Some row.0)) facts made.known made.fits.0.1 (made.means slots row.0 made.fits.0.1 row.1)

pub put-room : (form : Form) (place : Place) (slot : ℕ) (bytes page : List ℕ) (facts : PageFacts) → IsMadeFrom form facts (RowPut place slot bytes) page → 0 ≡ room_on page
put-room form place slot bytes page facts made =
    let row = row_has form bytes made.fits.1 in
    let slots = made.fits.0.0 in
    heap-room form page (set slots slot (Some row.0)) (made.means slots row.0 made.fits.0.1 row.1)

pub put-maps : (form : Form) (place : Place) (slot : ℕ) (bytes page : List ℕ) (facts : PageFacts) → IsMadeFrom form facts (RowPut place slot bytes) page → 0 ≡ map_pages_of page
put-maps form place slot bytes page facts made =
    let row = row_has form bytes made.fits.1 in
    let slots = made.fits.0.0 in
    heap-maps form page (set slots slot (Some row.0)) (made.means slots row.0 made.fits.0.1 row.1)

pub put_into : OneList → (form : Form) (place : Place) (slot : ℕ) (bytes page : List ℕ) (facts : PageFacts) → IsMadeFrom form facts (RowPut place slot bytes) page → HasPutInto form slot facts.lowest page
put_into one form place slot bytes page facts made =
    let row = row_has form bytes made.fits.1 in
    let slots = made.fits.0.0 in
    let had = made.fits.0.1 in
    let now = made.means slots row.0 had row.1 in
    let same = one form page (set slots slot (Some row.0)) now in (
      subst (HasSlots form page) same now,
      λ lowest.
          let first : lowest_free slots ≡ Some slot = lowest_started form made.before slots had (one form made.before slots had) ∙ sym (ap (λ (f : PageFacts). f.lowest) made.known) ∙ lowest in
          let is = lowest_is slots slot first in
          subst (AreUsedBelow slot) same (λ k below. used_up_to slots slot row.0 is.within is.used k (omega arith)),
    )

-- so the next free slot is the lowest one
pub next_lowest : (form : Form) (page : List ℕ) (slot : ℕ) (found : Option ℕ) → HasSlots form page (slots_on form page) → AreUsedBelow slot (slots_on form page) → found ≡ lowest_free_from slot (slots_on form page) → found ≡ lowest_on form page
next_lowest form page slot found has used is = is ∙ lowest_from slot (slots_on form page) used ∙ ap (λ (k : ℕ). cond (eqb k 0) None (lowest_free (slots_on form page))) (sym (heap_front form page (slots_on form page) has))

-- a mark

mark_lowest : (slots : List Slot) (slot : ℕ) (row other : StoredRow) → slice_get slots slot ≡ Some (Some row) → lowest_free (set slots slot (Some other)) ≡ lowest_free slots
mark_lowest slots slot row other there =
    let used : is_free (Some other) ≡ is_free (get_or slots slot None) = sym (ap is_free (get_or_from_slice_get slots slot (Some row) None there)) in
    let at = position_or_len-set is_free slots slot (Some other) None used in
    let long = length-set slots slot (Some other) in
    λ i. cond (ltb (at i) (long i)) (Some (at i)) None

pub mark_facts : OneList → (form : Form) (place : Place) (slot deleter : ℕ) (page : List ℕ) (facts : PageFacts) → IsMadeFrom form facts (RowMark place slot deleter) page → facts ≡ facts_on form page
mark_facts one form place slot deleter page facts made =
    let slots = made.fits.0 in
    let row = made.fits.1 in
    let had = made.fits.2 in
    let other = marked row deleter in
    let now = made.means slots row had made.fits.3 in
    let kind = same-kind form made.before page slots (set slots slot (Some other)) facts made.known had now in
    let lowest : facts.lowest ≡ lowest_on form page =
    ap (λ (f : PageFacts). f.lowest) made.known
    ∙ sym (lowest_started form made.before slots had (one form made.before slots had))
    ∙ sym (mark_lowest slots slot row other made.fits.3)
    ∙ lowest_started form page (set slots slot (Some other)) now (one form page (set slots slot (Some other)) now) in
    let room : facts.room ≡ room_on page =
    ap (λ (f : PageFacts). f.room) made.known ∙ sym (heap-room form made.before slots had) ∙ heap-room form page (set slots slot (Some other)) now in
    let maps : facts.maps ≡ map_pages_of page =
    ap (λ (f : PageFacts). f.maps) made.known ∙ sym (heap-maps form made.before slots had) ∙ heap-maps form page (set slots slot (Some other)) now in
    λ i. record { kind = kind i; lowest = lowest i; room = room i; maps = maps i }
