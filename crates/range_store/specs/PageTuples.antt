-- what changes of one page make of its tuples
use Rattle.std.specs.Prelude.{◌≡◌, false, ◌≢◌, ◌⊎◌, ℕ, ◌<◌, ◌≤◌, List, slice_index, None, Some}
use Rattle.index_contents.specs.TheConstants.{REGULAR, UNSTARTED}
use Rattle.index_contents.specs.IndexReading.{is_regular}
use Rattle.index_contents.specs.IndexWrites.{room_on}
use Rattle.index_contents.specs.IndexContents.{tuple_on}
use Rattle.index_contents.specs.PageLaws.{ChangesSlot, IsNoMap}

-- a page takes so many bytes: it is one for tuples with that much room, or isn't started
abbrev pub TakesOn : List ℕ → ℕ → Type 0
TakesOn page size = ((slice_index page 0 ≡ REGULAR) × (size ≤ room_on page)) ⊎ (slice_index page 0 ≡ UNSTARTED)

-- the bytes come to the lowest free slot
pub record PutsOn (old new : List ℕ) (slot : ℕ) (bytes : List ℕ) : Type 0 where
  pub before : IsNoMap old
  pub after : IsNoMap new
  pub kind : slice_index new 0 ≡ REGULAR
  pub free : tuple_on old slot ≡ None
  pub lower : (n : ℕ) → n < slot → tuple_on old n ≢ None
  pub changes : ChangesSlot old new slot (Some bytes)

-- the bytes in the slot give way to others, which have room in their place
pub record ReplacesOn (old new : List ℕ) (slot : ℕ) (before after : List ℕ) : Type 0 where
  pub was : slice_index old 0 ≡ REGULAR
  pub kind : slice_index new 0 ≡ REGULAR
  pub stood : tuple_on old slot ≡ Some before
  pub changes : ChangesSlot old new slot (Some after)

-- a page that isn't one of tuples stays as it is
abbrev pub StaysWithoutTuples : List ℕ → List ℕ → Type 0
StaysWithoutTuples old new = is_regular (slice_index old 0) ≡ false → new ≡ old

-- the slot is free, on a page of the same kind; where it was so nothing changes
pub record DropsOn (old new : List ℕ) (slot : ℕ) : Type 0 where
  pub kind : slice_index new 0 ≡ slice_index old 0
  pub changes : ChangesSlot old new slot None
  pub map : (new ≡ old) ⊎ (IsNoMap old × IsNoMap new)
  pub alone : StaysWithoutTuples old new
  pub free : tuple_on old slot ≡ None → new ≡ old
