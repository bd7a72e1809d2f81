-- the steps of a move: a new tuple in the place of the one that was copied, or on another page, named there, and the old one dropped
use Rattle.std.specs.Prelude.{◌≡◌, ℕ, ◌≤◌, List, Option, IfOk, IfErr, OnErr, Result}
use Rattle.block_model.specs.declared.place.Spot.{Spot}
use Rattle.disk_trait.specs.Told.{Told}
use Rattle.page_map.specs.declared.faults.MachineFault.{MachineFault}
use Rattle.page_map.specs.Keeps.{Keeps, Tells, Untold}
use Rattle.page_map.specs.PageMap.{View}
use Rattle.page_locks.specs.LockCounts.{locks_of}
use Rattle.page_locks.specs.LockHolders.{LockState, holder}
use Rattle.heap_rows.specs.Survives.{Survives}
use Rattle.coverage.specs.IndexView.{IndexTuple}
use Rattle.index_contents.specs.IndexChanges.{LeavesOthers}
use Rattle.index_contents.specs.IndexContents.{IndexContents, contents, relation_of}
use Rattle.index_contents.specs.KeepsOrder.{KeepsOrder}
use Rattle.index_steps.specs.declared.moves.Move.{Move}
use Rattle.index_steps.specs.declared.moves.Move.TheVariants as moves
use Rattle.index_steps.specs.declared.moves.MoveStep.{MoveStep}
use Rattle.index_steps.specs.declared.moves.MoveStep.TheVariants as steps
use Rattle.index_steps.specs.declared.swapping.Swapped.{Swapped}
use Rattle.index_steps.specs.declared.swapping.Swapped.TheVariants as swaps
use Rattle.index_steps.specs.declared.swapping.Within.{Within}
use Rattle.index_steps.specs.IndexTuples.{IndexShape, seen, shape_of}
use Rattle.index_steps.specs.MoveEnds.{DropsIn, IsMoving, SetsIn}
use Rattle.index_steps.specs.ShownIndex.{lock_in}
use Rattle.index_steps.specs.SwapAnswers.{FaultNamesPageOf, IsSwapFull, LeavesLocks, MachineOutcome, NamesHeld, SaysFullIn, StaysWhereFull, SwapMakes, TakesAtMost}

-- at most so many locks does a step take, at most so many are the move's own before it, and so many after it
abbrev pub taken_to_move : Move → ℕ
taken_to_move (moves.Swap x) = 3
taken_to_move move = 0

abbrev pub held_to_move : Move → ℕ
held_to_move (moves.Swap x) = 0
held_to_move move = 3

abbrev pub held_after : MoveStep → ℕ
held_after (steps.Put x y) = 3
held_after (steps.Named x) = 3
held_after step = 0

-- where the new tuple was put, the map still names the old one
abbrev pub IsMoveReady : IndexShape → IndexContents → (range : ℕ) → Move → Type 0
IsMoveReady shape c range (moves.Set x y) = IsMoving shape c range x y
IsMoveReady shape c range move = Unit {0}

-- what a swap at the spot is of the move
abbrev pub of_swap : Spot → Swapped → MoveStep
of_swap x swaps.InPlace = steps.InPlace
of_swap x swaps.Differs = steps.Differs
of_swap x (swaps.Waits held) = steps.Waits held
of_swap x (swaps.Moves y) = steps.Put x y

-- what may come of each step, of any disk
abbrev pub Comes : Move → MoveStep → Type 0
Comes (moves.Swap x) steps.InPlace = Unit {0}
Comes (moves.Swap x) steps.Differs = Unit {0}
Comes (moves.Swap x) (steps.Waits held) = Unit {0}
Comes (moves.Swap x) (steps.Put from y) = from ≡ x
Comes (moves.Set x y) (steps.Named from) = from ≡ x
Comes (moves.Drop x) steps.Dropped = Unit {0}
Comes move step = ⊥

-- what the step made of each index that the pages and locks showed
abbrev pub MoveMakes : IndexShape → (c d : IndexContents) → (lock locked : ℕ → Option ℕ) → (s range : ℕ) → (old new : IndexTuple) → Move → MoveStep → Type 0
MoveMakes shape c d lock locked s range old new (moves.Swap x) steps.InPlace = SwapMakes shape c d lock locked s range x old new swaps.InPlace
MoveMakes shape c d lock locked s range old new (moves.Swap x) steps.Differs = SwapMakes shape c d lock locked s range x old new swaps.Differs
MoveMakes shape c d lock locked s range old new (moves.Swap x) (steps.Waits held) = SwapMakes shape c d lock locked s range x old new (swaps.Waits held)
MoveMakes shape c d lock locked s range old new (moves.Swap x) (steps.Put from y) = SwapMakes shape c d lock locked s range x old new (swaps.Moves y)
MoveMakes shape c d lock locked s range old new (moves.Set x y) (steps.Named from) = (locked ≡ lock) × SetsIn shape c d range y
MoveMakes shape c d lock locked s range old new (moves.Drop x) steps.Dropped = DropsIn shape c d lock locked s x
MoveMakes shape c d lock locked s range old new move step = ⊥

-- no page has room for the new tuple, of so many that the index may have
abbrev pub MoveFull : IndexShape → (c : IndexContents) → (lock : ℕ → Option ℕ) → (s range : ℕ) → (old new : IndexTuple) → Move → (number : ℕ) → Type 0
MoveFull shape c lock s range old new (moves.Swap x) number = IsSwapFull shape c lock s range x old new number
MoveFull shape c lock s range old new move number = ⊥

-- where it waits nothing changes, and another actor holds the lock of a page of the index
abbrev pub MoveBlocked : {D : Type 0} → (D → Told) → (index actor : ℕ) → View D → View D → LockState → LockState → MoveStep → Type 0
MoveBlocked told index actor old new before after (steps.Waits held) = NamesHeld old.layout before index actor held × (after ≡ before) × Keeps told old new
MoveBlocked told index actor old new before after step = Unit {0}

-- the last step gives all locks
abbrev pub GivesBy : MoveStep → Type 0
GivesBy steps.Dropped = Unit {0}
GivesBy step = ⊥

-- what a call for the next step of a move did, with the bytes of the tuple that was copied and of the new one
pub record MoveCalled {D : Type 0} (told : D → Told) (at : Within) (move : Move) (copied widened : List ℕ) (old new : View D) (before after : LockState) (result : Result MoveStep MachineFault) : Type 0 where
  pub comes : IfOk result (Comes move)
  pub makes : IfOk result (λ step. Tells told old → MoveMakes (shape_of old.layout at.index) (contents old.layout old.pages at.index) (contents old.layout new.pages at.index) (lock_in old.layout before at.index) (lock_in old.layout after at.index)
      at.actor at.range (seen (shape_of old.layout at.index) copied) (seen (shape_of old.layout at.index) widened) move step)
  pub blocked : IfOk result (MoveBlocked told at.index at.actor old new before after)
  pub full : IfErr result (SaysFullIn old.layout at.index (λ number. Tells told old → MoveFull (shape_of old.layout at.index) (contents old.layout old.pages at.index) (lock_in old.layout before at.index)
      at.actor at.range (seen (shape_of old.layout at.index) copied) (seen (shape_of old.layout at.index) widened) move number))
  pub others : LeavesOthers told at.index old new
  pub order : KeepsOrder told at.index old new
  pub locks : LeavesLocks (holder before) (holder after) (relation_of old.layout at.index) at.actor
  pub at_full : IfErr result (StaysWhereFull before after)
  pub counts : TakesAtMost (taken_to_move move) before after at.actor
  pub given : IfOk result (λ step. GivesBy step → locks_of after at.actor ≡ 0)
  pub own : IfOk result (λ step. locks_of before at.actor ≤ held_to_move move → locks_of after at.actor ≤ held_after step)
  pub kept : OnErr result (Keeps told old new)
  pub survives : Survives told (λ passed. passed ≡ old.pages) old new
  pub names : IfErr result (FaultNamesPageOf old.layout at.index)
  pub outcome : MachineOutcome told (Untold told old) old new result
