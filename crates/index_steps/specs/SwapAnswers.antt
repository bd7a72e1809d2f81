-- what came of a step that would have a new tuple take the place of the one that was copied
use Rattle.std.specs.Prelude.{◌≡◌, ◌≢◌, ◌↔◌, ℕ, Option, Some, List, [], ◌∷◌, Result, Ok, Err}
use Rattle.block_model.specs.declared.place.Place.{Place}
use Rattle.block_model.specs.declared.place.Spot.{Spot}
use Rattle.store_layout.specs.DiskLayout.{DiskLayout}
use Rattle.disk_trait.specs.Told.{Told}
use Rattle.page_map.specs.declared.faults.MachineFault.{MachineFault}
use Rattle.page_map.specs.declared.faults.MachineFault.TheVariants as faults
use Rattle.page_map.specs.Keeps.{Keeps}
use Rattle.page_map.specs.Outcome.{Outcome, Refused}
use Rattle.page_map.specs.PageMap.{View}
use Rattle.page_locks.specs.declared.held.Held.{Held}
use Rattle.page_locks.specs.LockChanges.{GivesAll, TakesAll}
use Rattle.page_locks.specs.LockCounts.{AddsAtMost, locks_of}
use Rattle.page_locks.specs.LockHolders.{LockState, holder}
use Rattle.coverage.specs.IndexPart.{with_part}
use Rattle.coverage.specs.IndexView.{Building, IndexTuple, IndexView, map_page_of}
use Rattle.coverage.specs.Knowing.{LocksNone, LocksThese}
use Rattle.coverage.specs.Steps.{PutsTuple, ReadsIndex, ReplacesTuple}
use Rattle.coverage.specs.Verdicts.{Differs, Fits, Full, MustMove, Puts, SwapVerdict, Waits}
use Rattle.index_contents.specs.IndexContents.{IndexContents, relation_of}
use Rattle.index_steps.specs.declared.swapping.Swapped.{Swapped}
use Rattle.index_steps.specs.declared.swapping.Swapped.TheVariants as swaps
use Rattle.index_steps.specs.IndexTuples.{IndexShape}
use Rattle.index_steps.specs.Readings.{NamesPageOf}
use Rattle.index_steps.specs.ShownIndex.{Shows, shown_part}

-- the index after a call, whatever the sessions have in hand then
abbrev pub view_after : IndexShape → IndexContents → (ℕ → Option ℕ) → IndexView → (ℕ → Option Building) → (ℕ → Option Spot) → IndexView
view_after shape d locked w building loose = with_part w (shown_part shape d locked w.unnamed) building loose

-- What the call made of each index that the pages and locks showed before it, and in which the actor locked no page.
abbrev pub IsSwapped : (shape : IndexShape) (c d : IndexContents) (lock locked : ℕ → Option ℕ) (s range : ℕ) → Spot → (old new : IndexTuple) → IndexView → Swapped → Type 0
IsSwapped shape c d lock locked s range x old new w swaps.InPlace = SwapVerdict w s range x old new Fits
    × ((building : ℕ → Option Building) (loose : ℕ → Option Spot) → ReplacesTuple s w (view_after shape d locked w building loose) x old new)
IsSwapped shape c d lock locked s range x old new w swaps.Differs = SwapVerdict w s range x old new Differs
    × ((building : ℕ → Option Building) (loose : ℕ → Option Spot) → ReadsIndex s w (view_after shape d locked w building loose))
IsSwapped shape c d lock locked s range x old new w (swaps.Waits held) = SwapVerdict w s range x old new (Waits held.page.block)
IsSwapped shape c d lock locked s range x old new w (swaps.Moves y) = SwapVerdict w s range x old new (Puts y)
    × ((building : ℕ → Option Building) (loose : ℕ → Option Spot) → PutsTuple s w (view_after shape d locked w building loose) y new)
    × LocksThese locked s (x.block ∷ y.block ∷ map_page_of range ∷ [])

abbrev pub SwapMakes : (shape : IndexShape) (c d : IndexContents) (lock locked : ℕ → Option ℕ) (s range : ℕ) → Spot → (old new : IndexTuple) → Swapped → Type 0
SwapMakes shape c d lock locked s range x old new swapped =
    (w : IndexView) → Shows shape c lock w → LocksNone w.lock s → IsSwapped shape c d lock locked s range x old new w swapped

-- no page has room, of so many that the index may have
abbrev pub IsSwapFull : (shape : IndexShape) (c : IndexContents) (lock : ℕ → Option ℕ) (s range : ℕ) → Spot → (old new : IndexTuple) → (number : ℕ) → Type 0
IsSwapFull shape c lock s range x old new number = (w : IndexView) → Shows shape c lock w → SwapVerdict w s range x old new (Full number)

-- a full index is told by its relation, and only where no page has room
abbrev pub SaysFullIn : DiskLayout → (index : ℕ) → (IsFullAt : ℕ → Type 0) → MachineFault → Type 0
SaysFullIn layout index IsFullAt (faults.Full relation number) = (relation ≡ relation_of layout index) × IsFullAt number
SaysFullIn layout index IsFullAt (faults.Store error) = Unit {0}
SaysFullIn layout index IsFullAt faults.Memory = ⊥

-- where the index is full, no lock changes
abbrev pub StaysWhereFull : LockState → LockState → MachineFault → Type 0
StaysWhereFull before after (faults.Full relation number) = after ≡ before
StaysWhereFull before after fault = Unit {0}

-- the lock that is waited for is that of a page of the index, and another actor holds it
abbrev pub NamesHeld : DiskLayout → LockState → (index actor : ℕ) → Held → Type 0
NamesHeld layout locks index actor held = (held.page.relation ≡ relation_of layout index) × (holder locks held.page ≡ Some held.by) × (held.by ≢ actor)

abbrev pub WaitsFor : DiskLayout → LockState → (index actor : ℕ) → Swapped → Type 0
WaitsFor layout locks index actor (swaps.Waits held) = NamesHeld layout locks index actor held
WaitsFor layout locks index actor swapped = Unit {0}

-- these blocks are the ones that a move locks: the old tuple's, the new one's, and that of the range's entry
abbrev pub LocksAfter : (h k : Place → Option ℕ) (relation s range : ℕ) → Spot → (before after : LockState) → Swapped → Type 0
LocksAfter h k relation s range x before after (swaps.Moves y) = TakesAll h k relation (x.block ∷ y.block ∷ map_page_of range ∷ []) s
LocksAfter h k relation s range x before after swapped = after ≡ before

-- another actor's lock, and another tuple at the spot, leave the pages as they were
abbrev pub PagesAfter : {D : Type 0} → (D → Told) → View D → View D → Swapped → Type 0
PagesAfter told old new (swaps.Waits held) = Keeps told old new
PagesAfter told old new swaps.Differs = Keeps told old new
PagesAfter told old new swapped = Unit {0}

-- The locks of other relations' pages stay, but for those of the actor; and each other actor locks the pages that it locked, and no others.
pub record LeavesLocks (h k : Place → Option ℕ) (relation actor : ℕ) : Type 0 where
  pub elsewhere : (page : Place) → page.relation ≢ relation → h page ≢ Some actor → k page ≡ h page
  pub others : (page : Place) (n : ℕ) → n ≢ actor → (k page ≡ Some n) ↔ (h page ≡ Some n)

-- A step is done or refused as the page store does or refuses, for a cause of damage. A full index is told only where no disk fault
-- was kept, and no step is short of memory.
abbrev pub MachineOutcome : {D T : Type 0} → (D → Told) → (Cause : Type 0) → View D → View D → Result T MachineFault → Type 0
MachineOutcome told Cause old new (Ok done) = Outcome told Cause old new (Ok done)
MachineOutcome told Cause old new (Err (faults.Full relation number)) = Outcome told Cause old new (Ok number)
MachineOutcome told Cause old new (Err (faults.Store error)) = Refused told Cause old new error
MachineOutcome told Cause old new (Err faults.Memory) = ⊥

-- the copied bytes stand there, and so many can't take their place
abbrev pub MustLeave : IndexContents → Spot → List ℕ → ℕ → Type 0
MustLeave c x copied need = (c.bytes x ≡ Some copied) × MustMove c.pages c.bytes x need

-- a step's damage is told by the byte at which a page of the index begins
abbrev pub FaultNamesPageOf : DiskLayout → (index : ℕ) → MachineFault → Type 0
FaultNamesPageOf layout index (faults.Store error) = NamesPageOf layout index error
FaultNamesPageOf layout index fault = Unit {0}

-- the actor holds at most so many locks more, each other one as many, and as many as before may be held
pub record TakesAtMost (n : ℕ) (old new : LockState) (actor : ℕ) : Type 0 where
  pub limit : new.limit ≡ old.limit
  pub adds : AddsAtMost old new actor n

-- the actor gives all its locks, and has none left
pub record GivesLocks (old new : LockState) (actor : ℕ) : Type 0 where
  pub all : GivesAll (holder old) (holder new) actor
  pub none : locks_of new actor ≡ 0
