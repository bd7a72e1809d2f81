-- The changes that pages of tuples take.
use Rattle.std.proofs.Common.{◌≡◌, ℕ, ◌+◌, ◌*◌, ◌/◌, ◌%◌, ◌<◌, ◌≤◌, ◌&&◌, Bool, true, inr, List, [], ◌∷◌, length, set, nat_le, nat_lt, refl, sym, ap, subst, ◌∙◌, arith}
use Rattle.std.specs.Prelude.{slice_index, None, Some, Result, Ok, Err, OnOk}
use Rattle.std.specs.Int.{bytes_high_first}
use Rattle.std.proofs.lemmas.Bool.{le-leb, lt-ltb}
use Rattle.std.proofs.lemmas.Option.{slice_get-get_or}
use Rattle.block_model.specs.declared.place.Place.{Place}
use Rattle.store_layout.specs.DiskLayout.{DiskLayout}
use Rattle.page_layout.specs.declared.page.Form.{Form}
use Rattle.page_layout.specs.declared.page.Form.TheVariants as forms
use Rattle.page_layout.specs.PageContents.{IsPageOf}
use Rattle.page_layout.specs.PageWrites.{IsOfIndex}
use Rattle.page_layout.specs.IndexLaws.{regular_page}
use Rattle.index_contents.specs.TheConstants.{REGULAR}
use Rattle.index_contents.specs.IndexPages.{IsRegular, Slot, taken}
use Rattle.index_contents.specs.IndexReading.{free_of, is_regular, slots_of}
use Rattle.index_contents.specs.IndexWrites.{CanPut, CanReplace, IsRoom, are_ascending, dropped, put_in, trimmed}
use Rattle.page_map.specs.Redo.{IsIndexPageOf, Redone}
use Rattle.page_map.specs.Changed.{redone_once, redone_twice}
use Rattle.page_map.specs.Forms.{FitInTurn, FitsIn, IsPageIn, form_of}
use Rattle.wal_record.specs.Changes.{PageStart, TupleDrop, TuplePut, TupleReplace}
use Rattle.range_store.specs.Tuples.{IsTupleSize, TakesInPlace}
use Rattle.range_store.proofs.Found.{room_there}
use Rattle.range_store.proofs.PageWrites.{HasOneList, used_below}
use Rattle.range_store.proofs.TupleKinds.{kind_of}

-- where a call is done, what follows from what it did
pub on_done : {T E P Q : Type 0} (result : Result T E) → (P → Q) → OnOk result P → OnOk result Q
on_done (Ok value) follows did = follows did
on_done (Err error) follows did = did

-- a page of an index's relation is one of the form
of_index : (form : Form) (page : List ℕ) → form ≡ forms.Index → IsPageOf form page → IsIndexPageOf form page
of_index form page index is = (subst IsOfIndex (sym index) tt, subst (λ (f : Form). IsPageOf f page) index is)

pub put_fits : (layout : DiskLayout) (place : Place) (page : List ℕ) (slot : ℕ) (bytes : List ℕ) → form_of layout place.relation ≡ forms.Index → IsPageIn layout place.relation page → CanPut page slot (length bytes) → FitsIn layout place.relation page (TuplePut place slot bytes)
put_fits layout place page slot bytes index is can = (of_index (form_of layout place.relation) page index is, can)

pub replace_fits : (layout : DiskLayout) (place : Place) (page : List ℕ) (slot : ℕ) (bytes : List ℕ) → form_of layout place.relation ≡ forms.Index → IsPageIn layout place.relation page → CanReplace page slot (length bytes) → FitsIn layout place.relation page (TupleReplace place slot bytes)
replace_fits layout place page slot bytes index is can = (of_index (form_of layout place.relation) page index is, can)

-- a slot in two bytes is that slot
two_bytes : (slot : ℕ) → slot < 65536 → slot / 256 % 256 * 256 + slot % 256 ≡ slot
two_bytes slot small = omega arith

one_drops : (slots : List Slot) (slot : ℕ) → slot < 65536 → dropped slots (bytes_high_first 2 slot) ≡ set slots slot None
unfolding dropped
one_drops slots slot small = ap (λ (n : ℕ). set slots n None) (two_bytes slot small)

one_ascends : (count slot : ℕ) → slot < 65536 → slot < count → are_ascending 0 count (bytes_high_first 2 slot) ≡ true
unfolding are_ascending
one_ascends count slot small below =
    ap (λ (n : ℕ). (nat_le 0 n && nat_lt n count) && true) (two_bytes slot small) ∙ ap (λ (b : Bool). (b && nat_lt slot count) && true) (le-leb 0 slot (omega arith)) ∙ ap (λ (b : Bool). b && true) (lt-ltb slot count below)

pub drop_fits : (layout : DiskLayout) (place : Place) (page : List ℕ) (slot : ℕ) (bytes : List ℕ) → bytes ≡ bytes_high_first 2 slot → form_of layout place.relation ≡ forms.Index → IsPageIn layout place.relation page → is_regular (slice_index page 0) ≡ true → slot < 65536 → slot < length (slots_of page)
    → FitsIn layout place.relation page (TupleDrop place bytes)
drop_fits layout place page slot bytes told index is regular small below =
    (of_index (form_of layout place.relation) page index is, (regular, ap (are_ascending 0 (length (slots_of page))) told ∙ one_ascends (length (slots_of page)) slot small below))

-- that slot alone is free
pub one_dropped : (form : Form) (place : Place) (old new : List ℕ) (slot : ℕ) (bytes : List ℕ) → bytes ≡ bytes_high_first 2 slot → slot < 65536 → Redone form old (TupleDrop place bytes ∷ []) new
    → IsRegular (slice_index old 0) (trimmed (set (slots_of old) slot None)) new
one_dropped form place old new slot bytes told small redone =
    subst (λ (slots : List Slot). IsRegular (slice_index old 0) (trimmed slots) new) (ap (dropped (slots_of old)) told ∙ one_drops (slots_of old) slot small) (redone_once form old (TupleDrop place bytes) new redone)

-- a page that was started for tuples has none
no_slots : (page : List ℕ) → HasOneList → IsRegular REGULAR [] page → [] ≡ slots_of page
no_slots page one is = one REGULAR [] page is.has

all_free : free_of [] ≡ 8160
unfolding taken
all_free = refl

put_first : (page : List ℕ) (size : ℕ) → HasOneList → IsRegular REGULAR [] page → IsTupleSize size → CanPut page 0 size
put_first page size one is tuple =
    let none = no_slots page one is in (
      kind_of REGULAR [] page is,
      tuple.0,
      subst (λ (slots : List Slot). IsRoom slots 0 size) none (inr (refl, omega (arith, tuple.1, all_free))),
    )

pub start_fits : (form : Form) (place : Place) (page : List ℕ) (bytes : List ℕ) → form ≡ forms.Index → HasOneList → IsTupleSize (length bytes) → FitInTurn form page (PageStart place REGULAR ∷ TuplePut place 0 bytes ∷ [])
start_fits form place page bytes index one size = (
  (subst IsOfIndex (sym index) tt, refl),
  λ next is. (((subst IsOfIndex (sym index) tt, regular_page REGULAR [] next is), put_first next (length bytes) one is size), λ last made. tt),
)

pub started_with : (form : Form) (place : Place) (old new : List ℕ) (bytes : List ℕ) → HasOneList → Redone form old (PageStart place REGULAR ∷ TuplePut place 0 bytes ∷ []) new → IsRegular REGULAR (Some bytes ∷ []) new
started_with form place old new bytes one redone =
    let both = redone_twice form old (PageStart place REGULAR) (TuplePut place 0 bytes) new redone in
    let none : [] ≡ slots_of both.0 = no_slots both.0 one both.1 in
    subst (λ (slots : List Slot). IsRegular REGULAR (put_in slots 0 bytes) new) (sym none) both.2

-- a tuple with room in its place may be replaced, on the page as it was read
pub can_replace : (old mid : List ℕ) (slot : ℕ) (expect : List ℕ) (size : ℕ) → mid ≡ old → 0 < size → TakesInPlace old slot expect size → CanReplace mid slot size
can_replace old mid slot expect size same some takes =
    let inside = used_below (slots_of old) slot expect takes.0 in
    subst (λ (p : List ℕ). CanReplace p slot size) (sym same) (
      takes.1,
      some,
      (expect, slice_get-get_or (slots_of old) slot None inside ∙ ap (λ (t : Slot). Some t) takes.0, subst (λ (n : ℕ). size ≤ n) (room_there old slot expect takes.1 takes.0) takes.2),
    )
