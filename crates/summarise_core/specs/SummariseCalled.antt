-- what each call for a step of a summarise at a range does, by the stage that it is at
use Rattle.std.specs.Prelude.{◌≡◌, ◌≤◌, IfOk, IfErr, OnErr, OnOk, Result}
use Rattle.block_model.specs.declared.reply.Point.TheVariants as points
use Rattle.disk_trait.specs.Told.{Told}
use Rattle.page_map.specs.declared.faults.MachineFault.{MachineFault}
use Rattle.page_map.specs.Keeps.{Keeps, Tells}
use Rattle.page_map.specs.PageMap.{View}
use Rattle.page_locks.specs.declared.did.Did.{Did}
use Rattle.page_locks.specs.declared.did.Did.TheVariants as did
use Rattle.page_locks.specs.LockCounts.{locks_of}
use Rattle.page_locks.specs.LockHolders.{LockState, holder}
use Rattle.page_store.specs.Survives.{Survives}
use Rattle.heap_rows.specs.HeapBlocks.{OfBlocks}
use Rattle.index_contents.specs.IndexContents.{relation_of}
use Rattle.index_contents.specs.IndexChanges.{LeavesOthers}
use Rattle.index_contents.specs.KeepsOrder.{KeepsOrder}
use Rattle.index_steps.specs.declared.moves.Move.{Move}
use Rattle.index_steps.specs.declared.moves.Move.TheVariants as moves
use Rattle.index_steps.specs.declared.moves.MoveStep.{MoveStep}
use Rattle.index_steps.specs.declared.moves.MoveStep.TheVariants as steps
use Rattle.index_steps.specs.declared.swapping.Within.{Within}
use Rattle.index_steps.specs.IndexTuples.{shape_of}
use Rattle.index_steps.specs.StepAnswers.{BlockedWell}
use Rattle.index_steps.specs.SwapAnswers.{LeavesLocks, MachineOutcome, SaysFullIn, StaysWhereFull, TakesAtMost}
use Rattle.summarise_core.specs.declared.range_stage.Stage.{Stage}
use Rattle.summarise_core.specs.declared.range_stage.Stage.TheVariants as stages
use Rattle.summarise_core.specs.declared.work.Work.{Work}
use Rattle.summarise_core.specs.ExactSummaries.{IsExactAt}
use Rattle.summarise_core.specs.ShownHeap.{heap_of}
use Rattle.summarise_core.specs.StepCauses.{DamageAt, NamesPageAt}
use Rattle.summarise_core.specs.StageLocks.{GivesAt, held_at, taken_at}
use Rattle.summarise_core.specs.SummariseHands.{GrowsToPlace, IsHandOf, table_of}
use Rattle.summarise_core.specs.SummariseSteps.{RestsBlocked, StandsAfter, StepFull, StepsAt, summarise_at}
use Rattle.summarise_core.specs.Works.{hand_of}

-- what a move's step is of the summarise, and what comes of it: the range is done where the final tuple stands, and else the map is read again
abbrev pub stage_of_move : Move → Stage
stage_of_move (moves.Swap x) = stages.Swap x
stage_of_move (moves.Set x y) = stages.Set x y
stage_of_move (moves.Drop x) = stages.Drop x

abbrev pub after_move : Move → MoveStep → Stage × Did
after_move move steps.InPlace = (stages.Made, did.Finished points.Swap)
after_move move steps.Differs = (stages.Pass, did.Moved points.Again)
after_move move (steps.Waits held) = (stage_of_move move, did.Blocked held)
after_move move (steps.Put x y) = (stages.Set x y, did.Moved points.Put)
after_move move (steps.Named x) = (stages.Drop x, did.Moved points.Set)
after_move move steps.Dropped = (stages.Made, did.Finished points.Drop)

-- what it did, with what it works with before and after
pub record Called {D : Type 0} (told : D → Told) (within : Within) (stage : Stage) (was is : Work) (old new : View D) (before after : LockState) (result : Result (Stage × Did) MachineFault) : Type 0 where
  pub stepped : IfOk result (λ o. OfBlocks told old (table_of old.layout within.index) (λ blocks. StepsAt old.layout old.pages new.pages before after within (heap_of old.layout within.index blocks) (hand_of stage was) (hand_of o.0 is) o.1))
  pub exact : IfOk result (λ o. OfBlocks told old (table_of old.layout within.index) (λ blocks. IsExactAt (shape_of old.layout within.index) (heap_of old.layout within.index blocks) within.range (hand_of stage was) stage
      → IsExactAt (shape_of old.layout within.index) (heap_of old.layout within.index blocks) within.range (hand_of o.0 is) o.0))
  pub stands : IfOk result (λ o. StandsAfter was.growth.stage stage o.0 o.1)
  pub rests : IfOk result (λ o. RestsBlocked (hand_of stage was) (hand_of o.0 is) o.1)
  pub of : IsHandOf old.layout within.index (hand_of stage is)
  pub grows : IfOk result (λ o. GrowsToPlace is.growth.stage o.0)
  pub stays : OnErr result (is.growth.stage ≡ was.growth.stage)
  pub blocked : IfOk result (λ o. BlockedWell told within.index within.actor old new before after o.1)
  pub full : IfErr result (SaysFullIn old.layout within.index (λ number. Tells told old → StepFull (shape_of old.layout within.index) within.actor within.range (summarise_at old.layout old.pages before within.index (hand_of stage was)) number))
  pub at_full : IfErr result (StaysWhereFull before after)
  pub others : LeavesOthers told within.index old new
  pub order : KeepsOrder told within.index old new
  pub locks : LeavesLocks (holder before) (holder after) (relation_of old.layout within.index) within.actor
  pub counts : TakesAtMost (taken_at was.growth.stage stage) before after within.actor
  pub given : OnOk result (GivesAt was.growth.stage stage → locks_of after within.actor ≡ 0)
  pub own : IfOk result (λ o. locks_of before within.actor ≤ held_at was.growth.stage stage → locks_of after within.actor ≤ held_at is.growth.stage o.0)
  pub survives : Survives told (λ passed. passed ≡ old.pages) old new
  pub kept : OnErr result (Keeps told old new)
  pub undamaged : OnOk result (Tells told old → DamageAt old.layout old.pages within.index within.range (hand_of stage was) stage → ⊥)
  pub names : IfErr result (NamesPageAt old.layout within.index stage)
  pub outcome : MachineOutcome told (Tells told old → DamageAt old.layout old.pages within.index within.range (hand_of stage was) stage) old new result
