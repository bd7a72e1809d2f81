-- what each call for a step of an insert in an index does, by the stage that the insert is at
use Rattle.std.specs.Prelude.{◌≡◌, ℕ, ◌≤◌, List, IfOk, IfErr, OnErr, OnOk, Result}
use Rattle.block_model.specs.declared.place.Spot.{Spot}
use Rattle.block_model.specs.declared.reply.Point.TheVariants as points
use Rattle.block_model.specs.declared.row.Row.{Row}
use Rattle.block_model.specs.declared.value.Value.{Value}
use Rattle.disk_trait.specs.Told.{Told}
use Rattle.page_map.specs.declared.faults.MachineFault.{MachineFault}
use Rattle.page_map.specs.Keeps.{Keeps, Tells}
use Rattle.page_map.specs.PageMap.{View}
use Rattle.page_locks.specs.declared.did.Did.{Did}
use Rattle.page_locks.specs.declared.did.Did.TheVariants as did
use Rattle.page_locks.specs.LockCounts.{locks_of}
use Rattle.page_locks.specs.LockHolders.{LockState, holder}
use Rattle.heap_rows.specs.Survives.{Survives}
use Rattle.range_tuple.specs.TupleBytes.{tuple_bytes}
use Rattle.range_tuple.specs.Tuples.{Tuple}
use Rattle.index_contents.specs.IndexContents.{contents, relation_of}
use Rattle.index_contents.specs.IndexChanges.{LeavesOthers}
use Rattle.index_contents.specs.KeepsOrder.{KeepsOrder}
use Rattle.index_steps.specs.declared.moves.Move.{Move}
use Rattle.index_steps.specs.declared.moves.Move.TheVariants as moves
use Rattle.index_steps.specs.declared.moves.MoveStep.{MoveStep}
use Rattle.index_steps.specs.declared.moves.MoveStep.TheVariants as steps
use Rattle.index_steps.specs.declared.swapping.Within.{Within}
use Rattle.index_steps.specs.IndexTuples.{shape_of}
use Rattle.index_steps.specs.StepAnswers.{BlockedWell}
use Rattle.index_steps.specs.SwapAnswers.{FaultNamesPageOf, LeavesLocks, MachineOutcome, SaysFullIn, StaysWhereFull, TakesAtMost}
use Rattle.brin_insert.specs.declared.stage.Stage.{Stage}
use Rattle.brin_insert.specs.declared.stage.Stage.TheVariants as stages
use Rattle.brin_insert.specs.InsertSteps.{Stepped, insert_at, on_index}
use Rattle.brin_insert.specs.StageLocks.{held_at, taken_at}
use Rattle.brin_insert.specs.StepAnswers.{DamageAt, StandsAfter, StepFull}

-- what a move's step is of the insert, and what comes of it: the index is complete where the tuple with the row stands, and else the map is read again
abbrev pub stage_of_move : Move → Stage
stage_of_move (moves.Swap x) = stages.Swap x
stage_of_move (moves.Set x y) = stages.Set x y
stage_of_move (moves.Drop x) = stages.Drop x

abbrev pub after_move : Move → MoveStep → Stage × Did
after_move move steps.InPlace = (stages.Complete, did.Finished points.Swap)
after_move move steps.Differs = (stages.Map, did.Moved points.Again)
after_move move (steps.Waits held) = (stage_of_move move, did.Blocked held)
after_move move (steps.Put x y) = (stages.Set x y, did.Moved points.Put)
after_move move (steps.Named x) = (stages.Drop x, did.Moved points.Set)
after_move move steps.Dropped = (stages.Complete, did.Finished points.Drop)

-- what it did, of a row of these values, and which bytes were copied and which tuple has the row then
pub record Called {D : Type 0} (told : D → Told) (at : Within) (stage : Stage) (copied after : List ℕ) (widened wider : Tuple) (values : List Value) (old new : View D) (before locked : LockState) (result : Result (Stage × Did) MachineFault) : Type 0 where
  pub stepped : IfOk result (λ o. Tells told old → (r : Row) → r.values ≡ values → Stepped (shape_of old.layout at.index) at.actor at.range r (insert_at old.layout old.pages before at.index stage copied widened)
      (insert_at old.layout new.pages locked at.index o.0 after wider) o.1)
  pub stands : IfOk result (λ o. StandsAfter o.1 o.0)
  pub undamaged : OnOk result (Tells told old → DamageAt (shape_of old.layout at.index) (contents old.layout old.pages at.index) at.range stage → ⊥)
  pub blocked : IfOk result (λ o. BlockedWell told at.index at.actor old new before locked o.1)
  pub full : IfErr result (SaysFullIn old.layout at.index (λ number. Tells told old → StepFull (shape_of old.layout at.index) at.actor at.range (insert_at old.layout old.pages before at.index stage copied widened) number))
  pub others : LeavesOthers told at.index old new
  pub order : KeepsOrder told at.index old new
  pub locks : LeavesLocks (holder before) (holder locked) (relation_of old.layout at.index) at.actor
  pub at_full : IfErr result (StaysWhereFull before locked)
  pub counts : TakesAtMost (taken_at stage) before locked at.actor
  pub given : OnOk result ((x : Spot) → stage ≡ stages.Drop x → locks_of locked at.actor ≡ 0)
  pub own : IfOk result (λ o. locks_of before at.actor ≤ held_at stage → locks_of locked at.actor ≤ held_at o.0)
  pub same_hand : OnErr result (on_index (shape_of old.layout at.index) stage after (tuple_bytes wider) ≡ on_index (shape_of old.layout at.index) stage copied (tuple_bytes widened))
  pub kept : OnErr result (Keeps told old new)
  pub survives : Survives told (λ passed. passed ≡ old.pages) old new
  pub names : IfErr result (FaultNamesPageOf old.layout at.index)
  pub outcome : MachineOutcome told (Tells told old → DamageAt (shape_of old.layout at.index) (contents old.layout old.pages at.index) at.range stage) old new result
