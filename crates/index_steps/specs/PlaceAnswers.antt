-- what came of a step that puts a tuple of a range that has none, and of naming it
use Rattle.std.specs.Prelude.{◌≡◌, ℕ, Option, None, Some, [], ◌∷◌, length}
use Rattle.block_model.specs.declared.place.Place.{Place}
use Rattle.block_model.specs.declared.place.Spot.{Spot}
use Rattle.store_layout.specs.DiskLayout.{DiskLayout}
use Rattle.disk_trait.specs.Told.{Told}
use Rattle.page_map.specs.Keeps.{Keeps}
use Rattle.page_map.specs.PageMap.{View}
use Rattle.page_locks.specs.LockChanges.{TakesAll}
use Rattle.page_locks.specs.LockHolders.{LockState}
use Rattle.coverage.specs.IndexView.{Building, IndexTuple, IndexView, IsPastMap, map_page_of}
use Rattle.coverage.specs.Knowing.{LocksNone, LocksThese}
use Rattle.coverage.specs.PageOrder.{AreOrdered}
use Rattle.coverage.specs.Steps.{PutsTuple, SetsEntry}
use Rattle.coverage.specs.Verdicts.{Full, PutVerdict, Puts, Waits}
use Rattle.index_contents.specs.IndexContents.{IndexContents}
use Rattle.index_steps.specs.declared.placing.Placed.{Placed}
use Rattle.index_steps.specs.declared.placing.Placed.TheVariants as placed
use Rattle.index_steps.specs.IndexTuples.{IndexShape}
use Rattle.index_steps.specs.ShownIndex.{Shows}
use Rattle.index_steps.specs.SwapAnswers.{NamesHeld, view_after}

-- what the call made of an index that the pages and locks showed before it, and in which the actor locked no page
abbrev pub IsPlaced : (shape : IndexShape) (d : IndexContents) (locked : ℕ → Option ℕ) (s range : ℕ) → IndexTuple → IndexView → Placed → Type 0
IsPlaced shape d locked s range t w (placed.Waits held) = PutVerdict w s range (length t.bytes) (Waits held.page.block)
IsPlaced shape d locked s range t w (placed.Put y) = PutVerdict w s range (length t.bytes) (Puts y)
    × ((building : ℕ → Option Building) (loose : ℕ → Option Spot) → PutsTuple s w (view_after shape d locked w building loose) y t)
    × LocksThese locked s (y.block ∷ map_page_of range ∷ [])

abbrev pub PlaceMakes : (shape : IndexShape) (c d : IndexContents) (lock locked : ℕ → Option ℕ) (s range : ℕ) → IndexTuple → Placed → Type 0
PlaceMakes shape c d lock locked s range t made = (w : IndexView) → Shows shape c lock w → LocksNone w.lock s → IsPlaced shape d locked s range t w made

-- no page has room, of so many that the index may have
abbrev pub IsPutFull : (shape : IndexShape) (c : IndexContents) (lock : ℕ → Option ℕ) (s range : ℕ) → IndexTuple → (number : ℕ) → Type 0
IsPutFull shape c lock s range t number = (w : IndexView) → Shows shape c lock w → PutVerdict w s range (length t.bytes) (Full number)

-- the lock that is waited for is that of a page of the index, and another actor holds it
abbrev pub PlaceWaits : DiskLayout → LockState → (index actor : ℕ) → Placed → Type 0
PlaceWaits layout locks index actor (placed.Waits held) = NamesHeld layout locks index actor held
PlaceWaits layout locks index actor (placed.Put y) = Unit {0}

-- the pages that are locked: the tuple's, and that of the range's entry
abbrev pub PlacedLocks : (h k : Place → Option ℕ) (relation s range : ℕ) → (before after : LockState) → Placed → Type 0
PlacedLocks h k relation s range before after (placed.Waits held) = after ≡ before
PlacedLocks h k relation s range before after (placed.Put y) = TakesAll h k relation (y.block ∷ map_page_of range ∷ []) s

-- another actor's lock leaves the pages as they were
abbrev pub PagesPlaced : {D : Type 0} → (D → Told) → View D → View D → Placed → Type 0
PagesPlaced told old new (placed.Waits held) = Keeps told old new
PagesPlaced told old new (placed.Put y) = Unit {0}

-- an index that the pages show has its pages in order and a counted page for the range's entry, which is none; and the tuple is put
pub record IsPlacing (shape : IndexShape) (c : IndexContents) (range : ℕ) (to : Spot) : Type 0 where
  pub view : IndexView
  pub lock : ℕ → Option ℕ
  pub shows : Shows shape c lock view
  pub ordered : AreOrdered view
  pub none : view.entry range ≡ None
  pub within : IsPastMap view.pages range → ⊥
  pub put : (t : IndexTuple) × (view.tuple to ≡ Some t)

-- the range's entry becomes this spot, in each index that the pages and locks showed, and the actor locks no page of it
abbrev pub NamesIn : IndexShape → (c d : IndexContents) → (lock locked : ℕ → Option ℕ) → (s range : ℕ) → Spot → Type 0
NamesIn shape c d lock locked s range to = (w : IndexView) → Shows shape c lock w
    → ((building : ℕ → Option Building) (loose : ℕ → Option Spot) → SetsEntry s w (view_after shape d locked w building loose) range to) × LocksNone locked s
