-- The kinds of pages of tuples.
use Rattle.std.proofs.Common.{◌≡◌, ℕ, ◌==◌, true, inl, inr, List, [], refl, ap}
use Rattle.std.specs.Prelude.{drop, slice_index, slice_index_or, None, if◌then◌else◌}
use Rattle.std.proofs.lemmas.Bool.{eqb-true, or_cases}
use Rattle.index_contents.specs.TheConstants.{UNSTARTED, REGULAR, EVACUATED}
use Rattle.index_contents.specs.IndexPages.{IsRegular, Slot, regular_bytes}
use Rattle.index_contents.specs.IndexReading.{is_regular, number_at, slots_in, slots_of}
use Rattle.index_contents.specs.IndexContents.{tuple_on}
use Rattle.index_contents.specs.PageLaws.{IsNoMap, no_map}

-- a page of tuples is of its kind
pub kind_of : (kind : ℕ) (slots : List Slot) (page : List ℕ) → IsRegular kind slots page → slice_index page 0 ≡ kind
unfolding regular_bytes
kind_of kind slots page is = ap (λ (p : List ℕ). slice_index p 0) is.has.bytes

-- it says nothing of the map
pub regular_says_none : (page : List ℕ) → slice_index page 0 ≡ REGULAR → IsNoMap page
regular_says_none page is = no_map page REGULAR is refl refl

pub evacuated_says_none : (page : List ℕ) → slice_index page 0 ≡ EVACUATED → IsNoMap page
evacuated_says_none page is = no_map page EVACUATED is refl refl

pub tuples_say_none : (page : List ℕ) → is_regular (slice_index page 0) ≡ true → IsNoMap page
tuples_say_none page is = elim (or_cases (slice_index page 0 == REGULAR) (slice_index page 0 == EVACUATED) is) [
  | inl regular ↦ regular_says_none page (eqb-true (slice_index page 0) REGULAR regular)
  | inr evacuated ↦ evacuated_says_none page (eqb-true (slice_index page 0) EVACUATED evacuated)
]

-- nor does one that isn't started, and it has no tuples
pub unstarted_says_none : (page : List ℕ) → slice_index page 0 ≡ UNSTARTED → IsNoMap page
unstarted_says_none page is = no_map page UNSTARTED is refl refl

pub unstarted_has_none : (page : List ℕ) (slot : ℕ) → slice_index page 0 ≡ UNSTARTED → tuple_on page slot ≡ None
unfolding slots_of
unstarted_has_none page slot is = ap (λ (k : ℕ). slice_index_or (if is_regular k then slots_in page (number_at page 2 2) (drop 32 page) else []) slot None) is
