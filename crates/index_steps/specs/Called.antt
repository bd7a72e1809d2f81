-- what each call for a step of a growth does, by the stage that the growth is at
use Rattle.std.specs.Prelude.{◌≡◌, ℕ, ◌≤◌, List, IfOk, IfErr, OnErr, Result}
use Rattle.disk_trait.specs.Told.{Told}
use Rattle.page_map.specs.declared.faults.MachineFault.{MachineFault}
use Rattle.page_map.specs.Keeps.{Keeps, Tells}
use Rattle.page_map.specs.PageMap.{View}
use Rattle.page_locks.specs.declared.did.Did.{Did}
use Rattle.page_locks.specs.LockCounts.{locks_of}
use Rattle.page_locks.specs.LockHolders.{LockState, holder}
use Rattle.heap_rows.specs.Survives.{Survives}
use Rattle.index_contents.specs.IndexContents.{relation_of}
use Rattle.index_contents.specs.IndexChanges.{LeavesOthers}
use Rattle.index_steps.specs.IndexTuples.{shape_of}
use Rattle.index_steps.specs.StepAnswers.{BlockedWell}
use Rattle.index_steps.specs.SwapAnswers.{FaultNamesPageOf, LeavesLocks, MachineOutcome, SaysFullIn, StaysWhereFull, TakesAtMost}
use Rattle.index_contents.specs.KeepsOrder.{KeepsOrder}
use Rattle.index_steps.specs.declared.growth_stage.Stage.{Stage}
use Rattle.index_steps.specs.GrowthHands.{GrowthHand}
use Rattle.index_steps.specs.GrowthSteps.{StandsAfter, StepFull, StepsAt, growth_at}
use Rattle.index_steps.specs.StageLocks.{Gives, held_at, taken_at}

-- a growth of the index at that stage, with the bytes of a tuple
abbrev pub hand_at : (index : ℕ) → Stage → List ℕ → GrowthHand
hand_at index stage moved = record { index = index; stage = stage; moved = moved }

-- what it did, and which bytes it has then
pub record Called {D : Type 0} (told : D → Told) (actor : ℕ) (Cause : Type 0) (hand : GrowthHand) (moved : List ℕ) (old new : View D) (before after : LockState) (result : Result (Stage × Did) MachineFault) : Type 0 where
  pub stepped : IfOk result (λ o. Tells told old → StepsAt old.layout old.pages new.pages before after actor hand (hand_at hand.index o.0 moved) o.1)
  pub stands : IfOk result (λ o. StandsAfter hand (hand_at hand.index o.0 moved) o.1)
  pub blocked : IfOk result (λ o. BlockedWell told hand.index actor old new before after o.1)
  pub full : IfErr result (SaysFullIn old.layout hand.index (λ number. Tells told old → StepFull (shape_of old.layout hand.index) actor (growth_at old.layout old.pages before hand) number))
  pub others : LeavesOthers told hand.index old new
  pub locks : LeavesLocks (holder before) (holder after) (relation_of old.layout hand.index) actor
  pub counts : TakesAtMost (taken_at hand.stage) before after actor
  pub given : IfOk result (λ o. Gives hand.stage o.1 → locks_of after actor ≡ 0)
  pub own : IfOk result (λ o. locks_of before actor ≤ held_at hand.stage → locks_of after actor ≤ held_at o.0)
  pub at_full : IfErr result (StaysWhereFull before after)
  pub kept : OnErr result (Keeps told old new)
  pub order : KeepsOrder told hand.index old new
  pub survives : Survives told (λ passed. passed ≡ old.pages) old new
  pub at : IfErr result (FaultNamesPageOf old.layout hand.index)
  pub outcome : MachineOutcome told Cause old new result
