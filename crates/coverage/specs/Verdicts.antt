-- What comes of a step that would change index pages: it waits, it finds a difference, it has room in place or elsewhere, or none.
use Rattle.std.specs.Prelude.{◌≡◌, ◌≢◌, ◌⊎◌, ℕ, ◌≤◌, ◌<◌, Option, None, Some, List, [], ◌∷◌, length}
use Rattle.block_model.specs.declared.place.Spot.{Spot}
use Rattle.coverage.specs.IndexView.{IndexTuple, Unstarted, Regular, Pages, IndexView, map_page_of}
use Rattle.index_layout.specs.IndexPages.{Slot}
use Rattle.coverage.specs.Changes.{IsFree}
use Rattle.coverage.specs.Rooms.{bytes_of, place_room, page_room}

-- another session locks this page
abbrev pub IsLocked : (ℕ → Option ℕ) → ℕ → ℕ → Type 0
IsLocked lock s p = (n : ℕ) × (lock p ≡ Some n) × (n ≢ s)

-- the first of these pages that another session locks
pub data IsFirstLocked (lock : ℕ → Option ℕ) (s : ℕ) : List ℕ → ℕ → Type 0 where
  First : (p : ℕ) (more : List ℕ) → IsLocked lock s p → IsFirstLocked lock s (p ∷ more) p
  Later : (p q : ℕ) (more : List ℕ) → IsFree lock s p → IsFirstLocked lock s more q → IsFirstLocked lock s (p ∷ more) q

-- it is the lowest number of this sort
abbrev pub IsLowestNumber : (ℕ → Type 0) → ℕ → Type 0
IsLowestNumber Is p = Is p × ((q : ℕ) → Is q → p ≤ q)

-- a page past the map takes a further tuple of this length
abbrev pub PageHasRoom : Pages → (Spot → Slot) → ℕ → ℕ → Type 0
PageHasRoom pages bytes need p = (pages.map_pages < p) × (pages.kind p ≡ Regular) × (need ≤ page_room bytes p)

abbrev pub IsPageUnstarted : Pages → ℕ → Type 0
IsPageUnstarted pages p = pages.kind p ≡ Unstarted

-- The page for a tuple of this length: the lowest one with room, else the next one that isn't started, below the limit.
pub data IsTarget (pages : Pages) (bytes : Spot → Slot) (need p : ℕ) : Type 0 where
  OnStarted : IsLowestNumber (PageHasRoom pages bytes need) p → IsTarget pages bytes need p
  OnNew : ((q : ℕ) → PageHasRoom pages bytes need q → ⊥) → IsLowestNumber (IsPageUnstarted pages) p → p < pages.limit → IsTarget pages bytes need p

-- nothing stands in this slot of the page
abbrev pub IsFreeSlot : {A : Type 0} → (Spot → Option A) → ℕ → ℕ → Type 0
IsFreeSlot stands p k = stands (record { block = p; slot = k }) ≡ None

-- each page has a free slot
abbrev pub HasFreeSlots : {A : Type 0} → (Spot → Option A) → Type 0
HasFreeSlots stands = (p : ℕ) → (k : ℕ) × IsFreeSlot stands p k

-- the place for it: the lowest free slot of that page
abbrev pub IsTargetPlace : Pages → (Spot → Option IndexTuple) → ℕ → Spot → Type 0
IsTargetPlace pages tuple need y = IsTarget pages (bytes_of tuple) need y.block × IsLowestNumber (IsFreeSlot tuple y.block) y.slot

-- it waits for this page; what it compares differs; it has room in place; a tuple is put at this place; no page has room, of so many
-- that there may be
pub data Verdict : Type 0 where
  Waits : ℕ → Verdict
  Differs : Verdict
  Fits : Verdict
  Puts : Spot → Verdict
  Full : ℕ → Verdict

-- A tuple of this length is to be put for a range: the page is chosen, then its lock and that of the map page are needed.
pub data PutVerdict (w : IndexView) (s range need : ℕ) : Verdict → Type 0 where
  NoTarget : ((p : ℕ) → IsTarget w.pages (bytes_of w.tuple) need p → ⊥) → PutVerdict w s range need (Full w.pages.limit)
  PutWaits : (p q : ℕ) → IsTarget w.pages (bytes_of w.tuple) need p → IsFirstLocked w.lock s (p ∷ map_page_of range ∷ []) q → PutVerdict w s range need (Waits q)
  PutGoes : (y : Spot) → IsTargetPlace w.pages w.tuple need y → IsFree w.lock s y.block → IsFree w.lock s (map_page_of range)
      → PutVerdict w s range need (Puts y)

-- a tuple has to leave a page that isn't regular, or on which one of this length doesn't fit in its place
abbrev pub MustMove : Pages → (Spot → Slot) → Spot → ℕ → Type 0
MustMove pages bytes x need = (pages.kind x.block ≢ Regular) ⊎ (place_room bytes x < need)

-- A new tuple is to take the place of the one that was copied at this place: its page's lock comes first, then the comparison.
pub data SwapVerdict (w : IndexView) (s range : ℕ) (x : Spot) (old new : IndexTuple) : Verdict → Type 0 where
  SwapWaits : IsLocked w.lock s x.block → SwapVerdict w s range x old new (Waits x.block)
  SwapDiffers : IsFree w.lock s x.block → w.tuple x ≢ Some old → SwapVerdict w s range x old new Differs
  SwapFits : IsFree w.lock s x.block → w.tuple x ≡ Some old → w.pages.kind x.block ≡ Regular → length new.bytes ≤ place_room (bytes_of w.tuple) x
      → SwapVerdict w s range x old new Fits
  SwapMoves : (verdict : Verdict) → IsFree w.lock s x.block → w.tuple x ≡ Some old → MustMove w.pages (bytes_of w.tuple) x (length new.bytes)
      → PutVerdict w s range (length new.bytes) verdict
      → SwapVerdict w s range x old new verdict

-- The entry of a range is to go: the locks of tuple page and map page come first, then the comparison.
pub data ClearVerdict (w : IndexView) (s range : ℕ) (x : Spot) : Verdict → Type 0 where
  ClearWaits : (q : ℕ) → IsFirstLocked w.lock s (x.block ∷ map_page_of range ∷ []) q → ClearVerdict w s range x (Waits q)
  ClearDiffers : IsFree w.lock s x.block → IsFree w.lock s (map_page_of range) → w.entry range ≢ Some x → ClearVerdict w s range x Differs
  ClearFits : IsFree w.lock s x.block → IsFree w.lock s (map_page_of range) → w.entry range ≡ Some x → ClearVerdict w s range x Fits
