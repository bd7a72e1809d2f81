-- Where a statement waits for a page's lock, and where it lacks a page.
use Rattle.std.specs.Prelude.{◌≡◌, ℕ, ◌≤◌, ◌<◌, Option, Some, [], ◌∷◌, length}
use Rattle.block_model.specs.declared.place.Spot.{Spot}
use Rattle.coverage.specs.IndexView.{IndexTuple, Progress, PageKind, Unstarted, Mapping, Regular, Emptying, Pages, IndexView, range_of_block, next_map_page, placeholder_length}
use Rattle.coverage.specs.IndexView.{IsPastMap}
use Rattle.coverage.specs.Changes.{IsFree}
use Rattle.coverage.specs.Verdicts.{IsLocked, IsFirstLocked, Waits, Full, PutVerdict, SwapVerdict}
use Rattle.coverage.specs.Statements.{OnIndex, Empty, Copied, Phase, Vacant, IsAt}

-- the next tuple of a page that is emptied, in the order of its slots
pub record IsNextTuple {A : Type 0} (tuple : Spot → Option A) (page : ℕ) (x : Spot) (t : A) : Type 0 where
  pub on : x.block ≡ page
  pub stands : tuple x ≡ Some t
  pub first : (y : Spot) (u : A) → y.block ≡ page → tuple y ≡ Some u → x.slot ≤ y.slot

-- the map may grow onto a page of this kind
pub record Grows (pages : Pages) (range : ℕ) (kind : PageKind) : Type 0 where
  pub short : IsPastMap pages range
  pub below : next_map_page pages < pages.limit
  pub is : pages.kind (next_map_page pages) ≡ kind

-- The page for whose lock a summariser waits on its range.
pub data IsPhaseWaiting (w : IndexView) (s range : ℕ) : Phase → ℕ → Type 0 where
  FinalWaits : (q : ℕ) (p : Progress) (x : Spot) (old new : IndexTuple) → SwapVerdict w s range x old new (Waits q)
      → IsPhaseWaiting w s range (IsAt p (Copied x old new)) q
  PlaceWaits : (q : ℕ) → (IsPastMap w.pages range → ⊥) → PutVerdict w s range (placeholder_length w range) (Waits q) → IsPhaseWaiting w s range Vacant q
  GrowWaits : (q : ℕ) → Grows w.pages range Unstarted → IsFirstLocked w.lock s (next_map_page w.pages ∷ 0 ∷ []) q → IsPhaseWaiting w s range Vacant q
  CountWaits : Grows w.pages range Mapping → IsLocked w.lock s 0 → IsPhaseWaiting w s range Vacant 0
  FlagWaits : Grows w.pages range Regular → IsLocked w.lock s (next_map_page w.pages) → IsPhaseWaiting w s range Vacant (next_map_page w.pages)
  EvacuateWaits : (x : Spot) (t : IndexTuple) → Grows w.pages range Emptying → IsNextTuple w.tuple (next_map_page w.pages) x t
      → IsLocked w.lock s (next_map_page w.pages)
      → IsPhaseWaiting w s range Vacant (next_map_page w.pages)
  EvacuatePutWaits : (q : ℕ) (x : Spot) (t : IndexTuple) → Grows w.pages range Emptying → IsNextTuple w.tuple (next_map_page w.pages) x t
      → w.entry t.range ≡ Some x
      → IsFree w.lock s x.block → PutVerdict w s t.range (length t.bytes) (Waits q) → IsPhaseWaiting w s range Vacant q
  TurnWaits : (q : ℕ) → Grows w.pages range Emptying → ((x : Spot) (t : IndexTuple) → IsNextTuple w.tuple (next_map_page w.pages) x t → ⊥)
      → IsFirstLocked w.lock s (next_map_page w.pages ∷ 0 ∷ []) q → IsPhaseWaiting w s range Vacant q

-- No page is left for a tuple, or for the map, that a summariser needs for its range; the number is that of all pages that there may be.
pub data IsPhaseFull (w : IndexView) (s range : ℕ) : Phase → ℕ → Type 0 where
  FinalFull : (number : ℕ) (p : Progress) (x : Spot) (old new : IndexTuple) → SwapVerdict w s range x old new (Full number)
      → IsPhaseFull w s range (IsAt p (Copied x old new)) number
  PlaceFull : (number : ℕ) → (IsPastMap w.pages range → ⊥) → PutVerdict w s range (placeholder_length w range) (Full number)
      → IsPhaseFull w s range Vacant number
  MapFull : IsPastMap w.pages range → w.pages.limit ≤ next_map_page w.pages → IsPhaseFull w s range Vacant w.pages.limit
  EvacuateFull : (number : ℕ) (x : Spot) (t : IndexTuple) → Grows w.pages range Emptying → IsNextTuple w.tuple (next_map_page w.pages) x t
      → w.entry t.range ≡ Some x
      → IsFree w.lock s x.block → PutVerdict w s t.range (length t.bytes) (Full number) → IsPhaseFull w s range Vacant number

-- A refusal ends an insert in this state on the index: no page is left for its tuple here; or none was left in another index of the
-- table, and it hasn't begun here.
pub data IsInsertEnded (w : IndexView) (s b : ℕ) : OnIndex → Type 0 where
  EndsBefore : IsInsertEnded w s b Empty
  EndsFull : (number : ℕ) (x : Spot) (old new : IndexTuple) → SwapVerdict w s (range_of_block w b) x old new (Full number)
      → IsInsertEnded w s b (Copied x old new)
