-- A change of a page that was read before it.
use Rattle.std.proofs.Common.{◌≡◌, ◌≢◌, ℕ, ◌<◌, ◌≤◌, ◌==◌, Bool, true, false, inl, inr, List, length, refl, sym, ap, subst}
use Rattle.std.specs.Prelude.{slice_index, slice_index_or, None, Some, if◌then◌else◌}
use Rattle.std.proofs.lemmas.Bool.{eqb-true}
use Rattle.index_contents.specs.TheConstants.{REGULAR, UNSTARTED}
use Rattle.index_contents.specs.IndexPages.{IsRegular, Slot}
use Rattle.index_contents.specs.IndexReading.{free_slot_of, slots_of}
use Rattle.index_contents.specs.IndexWrites.{put_in}
use Rattle.range_store.specs.PageTuples.{PutsOn, TakesOn}
use Rattle.range_store.specs.declared.putting.Opening.{Opening}
use Rattle.range_store.specs.declared.putting.Opening.TheVariants as openings
use Rattle.range_store.specs.Tuples.{opening_of}
use Rattle.range_store.proofs.PageWrites.{HasOneList, puts_on}

same_slot : (a b : ℕ) → openings.Slot a ≡ openings.Slot b → a ≡ b
same_slot a b e = cc

abbrev opening_by : ℕ → List Slot → Opening
opening_by kind slots = if kind == REGULAR then openings.Slot (free_slot_of slots) else (if kind == UNSTARTED then openings.NewPage else openings.Closed)

-- a page with a slot for a further tuple takes tuples
pub slot_is : (page : List ℕ) (slot : ℕ) → openings.Slot slot ≡ opening_of page → (slice_index page 0 ≡ REGULAR) × (slot ≡ free_slot_of (slots_of page))
slot_is page slot is = on (slice_index page 0 == REGULAR) (slice_index page 0 == UNSTARTED) refl is
  where
    on : (b d : Bool) → (slice_index page 0 == REGULAR) ≡ b → openings.Slot slot ≡ (if b then openings.Slot (free_slot_of (slots_of page)) else (if d then openings.NewPage else openings.Closed))
        → (slice_index page 0 ≡ REGULAR) × (slot ≡ free_slot_of (slots_of page))
    on true d e some = (eqb-true (slice_index page 0) REGULAR e, same_slot slot (free_slot_of (slots_of page)) some)
    on false true e some = absurd cc
    on false false e some = absurd cc

-- and one that is to be started isn't
pub new_page_is : (page : List ℕ) → openings.NewPage ≡ opening_of page → slice_index page 0 ≡ UNSTARTED
new_page_is page is = on (slice_index page 0 == REGULAR) (slice_index page 0 == UNSTARTED) refl is
  where
    on : (b d : Bool) → (slice_index page 0 == UNSTARTED) ≡ d → openings.NewPage ≡ (if b then openings.Slot (free_slot_of (slots_of page)) else (if d then openings.NewPage else openings.Closed)) → slice_index page 0 ≡ UNSTARTED
    on true d e some = absurd cc
    on false true e some = eqb-true (slice_index page 0) UNSTARTED e
    on false false e some = absurd cc

-- one that is closed takes none
pub closed_takes_none : (page : List ℕ) (size : ℕ) → openings.Closed ≡ opening_of page → TakesOn page size → ⊥
closed_takes_none page size closed (inl regular) = let e = ap (λ (k : ℕ). opening_by k (slots_of page)) regular.0 in absurd cc
closed_takes_none page size closed (inr unstarted) = let e = ap (λ (k : ℕ). opening_by k (slots_of page)) unstarted in absurd cc

-- a tuple is put on the page as it was read
pub puts_after : (old mid new : List ℕ) (slot : ℕ) (bytes : List ℕ) → HasOneList → ((list : List Slot) → slice_index_or list (free_slot_of list) None ≡ None) → ((list : List Slot) (n : ℕ) → n < free_slot_of list → slice_index_or list n None ≢ None)
    → ((list : List Slot) → free_slot_of list ≤ length list) → ((list : List Slot) (n : ℕ) (tuple : List ℕ) → n ≤ length list → slice_index_or (put_in list n tuple) n None ≡ Some tuple)
    → ((list : List Slot) (n m : ℕ) (tuple : List ℕ) → n ≤ length list → m ≢ n → slice_index_or (put_in list n tuple) m None ≡ slice_index_or list m None)
    → mid ≡ old → openings.Slot slot ≡ opening_of old → IsRegular REGULAR (put_in (slots_of mid) slot bytes) new → PutsOn old new slot bytes
puts_after old mid new slot bytes one free lowest within there others same is put =
    let list : List Slot = slots_of old in
    let first : ℕ = free_slot_of list in
    let at = slot_is old slot is in
    let here : IsRegular REGULAR (put_in list slot bytes) new = subst (λ (p : List ℕ). IsRegular REGULAR (put_in (slots_of p) slot bytes) new) same put in
    subst (λ (n : ℕ). PutsOn old new n bytes) (sym at.1)
    (puts_on old new bytes one at.0 (subst (λ (n : ℕ). IsRegular REGULAR (put_in list n bytes) new) at.1 here) (free list) (lowest list) (there list first bytes (within list)) (λ m apart. others list first m bytes (within list) apart))
