-- what a call for a step of an insert in an index did, by what the calls below say
use Rattle.std.proofs.Common.{◌≡◌, ℕ, ◌≤◌, List, refl, arith}
use Rattle.std.specs.Prelude.{IfOk, OnOk, Result, Ok, Err}
use Rattle.block_model.specs.declared.place.Spot.{Spot}
use Rattle.block_model.specs.declared.row.Row.{Row}
use Rattle.block_model.specs.declared.value.Value.{Value}
use Rattle.disk_trait.specs.Told.{Told}
use Rattle.page_map.specs.declared.faults.MachineFault.{MachineFault}
use Rattle.page_map.specs.Keeps.{Tells, Untold}
use Rattle.page_map.specs.PageMap.{View}
use Rattle.page_locks.specs.declared.did.Did.{Did}
use Rattle.page_locks.specs.LockCounts.{locks_of}
use Rattle.page_locks.specs.LockHolders.{LockState, holder}
use Rattle.range_tuple.specs.TupleBytes.{tuple_bytes}
use Rattle.range_tuple.specs.Tuples.{Tuple}
use Rattle.index_contents.specs.IndexContents.{IndexContents, contents, relation_of}
use Rattle.index_contents.specs.OrderLaws.{order_kept}
use Rattle.index_steps.specs.declared.moves.Move.{Move}
use Rattle.index_steps.specs.declared.moves.Move.TheVariants as moves
use Rattle.index_steps.specs.declared.moves.MoveStep.{MoveStep}
use Rattle.index_steps.specs.declared.moves.MoveStep.TheVariants as steps
use Rattle.index_steps.specs.declared.swapping.Within.{Within}
use Rattle.index_steps.specs.IndexTuples.{IndexShape, seen, shape_of}
use Rattle.index_steps.specs.LockLaws.{same_apart, takes_none}
use Rattle.index_steps.specs.Moves.{Comes, GivesBy, MoveBlocked, MoveCalled, MoveFull, held_after, held_to_move, taken_to_move}
use Rattle.index_steps.specs.OnlyReads.{OnlyReads}
use Rattle.index_steps.specs.ShownIndex.{lock_in}
use Rattle.index_steps.specs.StepAnswers.{BlockedWell, IsOfStore, NeverBlocked}
use Rattle.index_steps.specs.SwapAnswers.{FaultNamesPageOf, SaysFullIn, StaysWhereFull, TakesAtMost}
use Rattle.brin_insert.specs.declared.stage.Stage.{Stage}
use Rattle.brin_insert.specs.declared.stage.Stage.TheVariants as stages
use Rattle.brin_insert.specs.InsertCalled.{Called, after_move, stage_of_move}
use Rattle.brin_insert.specs.InsertSteps.{Stepped, insert_at, on_index}
use Rattle.brin_insert.specs.StageLocks.{held_at, taken_at}
use Rattle.brin_insert.specs.StepAnswers.{DamageAt, StandsAfter, StepFull}
use Rattle.index_steps.proofs.Arms.{err_too, ok_all, ok_too, on_err_of, on_ok_of}
use Rattle.index_steps.proofs.Onward.{fault_too, full_too}
use Rattle.index_steps.proofs.OnlyReading.{never_waits, none_full, of_store}
use Rattle.index_steps.proofs.Refusals.{kept_others}
use Rattle.brin_insert.proofs.Swaps.{step_by}

-- a call that only reads
module _ {D : Type 0} (told : D → Told) (at : Within) (stage : Stage) (copied after : List ℕ) (widened wider : Tuple) (values : List Value) (old new : View D) (locks : LockState) where
  abbrev Steps : Stage × Did → Type 0
  Steps o = Tells told old → (r : Row) → r.values ≡ values → Stepped (shape_of old.layout at.index) at.actor at.range r (insert_at old.layout old.pages locks at.index stage copied widened) (insert_at old.layout new.pages locks at.index o.0 after wider) o.1

  abbrev IsFull : ℕ → Type 0
  IsFull number = Tells told old → StepFull (shape_of old.layout at.index) at.actor at.range (insert_at old.layout old.pages locks at.index stage copied widened) number

  pub reads_called : (result : Result (Stage × Did) MachineFault) → held_at stage ≡ 0 → ((x : Spot) → stage ≡ stages.Drop x → ⊥)
      → on_index (shape_of old.layout at.index) stage after (tuple_bytes wider) ≡ on_index (shape_of old.layout at.index) stage copied (tuple_bytes widened)
      → IfOk result Steps → IfOk result (λ o. StandsAfter o.1 o.0) → OnOk result (Tells told old → DamageAt (shape_of old.layout at.index) (contents old.layout old.pages at.index) at.range stage → ⊥)
      → OnlyReads told (FaultNamesPageOf old.layout at.index) (Tells told old → DamageAt (shape_of old.layout at.index) (contents old.layout old.pages at.index) at.range stage) old new result
      → Called told at stage copied after widened wider values old new locks locks result
  reads_called result none no_drop same stepped stands undamaged reads = record {
    stepped = stepped;
    stands = stands;
    undamaged = undamaged;
    blocked = ok_too (λ o. NeverBlocked o.1) (λ o. BlockedWell told at.index at.actor old new locks locks o.1) result (λ o. never_waits told at.index at.actor old new locks locks o.1) reads.never_blocked;
    full = err_too IsOfStore (SaysFullIn old.layout at.index IsFull) result (of_store old.layout at.index IsFull) reads.of_store;
    others = kept_others told old new reads.kept at.index;
    order = order_kept told at.index old new reads.kept;
    locks = same_apart (relation_of old.layout at.index) at.actor (holder locks);
    at_full = err_too IsOfStore (StaysWhereFull locks locks) result (none_full locks locks) reads.of_store;
    counts = takes_none (taken_at stage) locks at.actor;
    given = on_ok_of result (λ x is. absurd (no_drop x is));
    own = ok_all (λ o. locks_of locks at.actor ≤ held_at stage → locks_of locks at.actor ≤ held_at o.0) result (λ o few. omega (arith, none, few));
    same_hand = on_err_of result same;
    kept = on_err_of result reads.kept;
    survives = reads.survives;
    names = reads.names;
    outcome = reads.outcome;
  }

-- a stage that isn't the drop of a tuple
pub map_is_no_drop : (x : Spot) → stages.Map ≡ stages.Drop x → ⊥
map_is_no_drop x e = cc

pub copy_is_no_drop : (x y : Spot) → stages.Copy x ≡ stages.Drop y → ⊥
copy_is_no_drop x y e = cc

swap_is_no_drop : (x y : Spot) → stages.Swap x ≡ stages.Drop y → ⊥
swap_is_no_drop x y e = cc

set_is_no_drop : (x y z : Spot) → stages.Set x y ≡ stages.Drop z → ⊥
set_is_no_drop x y z e = cc

-- a step of the move
module _ {D : Type 0} (told : D → Told) (at : Within) (copied : List ℕ) (widened : Tuple) (values : List Value) (old new : View D) (before after : LockState) where
  abbrev shape : IndexShape
  shape = shape_of old.layout at.index

  abbrev was : IndexContents
  was = contents old.layout old.pages at.index

  abbrev Lacks : Move → ℕ → Type 0
  Lacks move number = MoveFull shape was (lock_in old.layout before at.index) at.actor at.range (seen shape copied) (seen shape (tuple_bytes widened)) move number

  abbrev IsLacking : Move → ℕ → Type 0
  IsLacking move number = StepFull shape at.actor at.range (insert_at old.layout old.pages before at.index (stage_of_move move) copied widened) number

  by_move : (move : Move) → (TakesAtMost (taken_to_move move) before after at.actor → TakesAtMost (taken_at (stage_of_move move)) before after at.actor)
      × (DamageAt shape was at.range (stage_of_move move) → ⊥) × ((number : ℕ) → Lacks move number → IsLacking move number)
  by_move (moves.Swap x) = (λ takes. takes, λ damage. damage, λ number full. full)
  by_move (moves.Set x y) = (λ takes. takes, λ damage. damage, λ number never. absurd never)
  by_move (moves.Drop x) = (λ takes. takes, λ damage. damage, λ number never. absurd never)

  by_step : (move : Move) (step : MoveStep) → Comes move step → MoveBlocked told at.index at.actor old new before after step → (GivesBy step → locks_of after at.actor ≡ 0) → (locks_of before at.actor ≤ held_to_move move → locks_of after at.actor ≤ held_after step)
      → StandsAfter (after_move move step).1 (after_move move step).0 × BlockedWell told at.index at.actor old new before after (after_move move step).1 × ((y : Spot) → stage_of_move move ≡ stages.Drop y → locks_of after at.actor ≡ 0)
      × (locks_of before at.actor ≤ held_at (stage_of_move move) → locks_of after at.actor ≤ held_at (after_move move step).0)
  by_step (moves.Swap x) steps.InPlace comes blocked gives own = (refl, tt, λ y is. absurd (swap_is_no_drop x y is), own)
  by_step (moves.Swap x) steps.Differs comes blocked gives own = (tt, tt, λ y is. absurd (swap_is_no_drop x y is), own)
  by_step (moves.Swap x) (steps.Waits held) comes blocked gives own = (tt, blocked, λ y is. absurd (swap_is_no_drop x y is), own)
  by_step (moves.Swap x) (steps.Put from y) comes blocked gives own = (tt, tt, λ z is. absurd (swap_is_no_drop x z is), own)
  by_step (moves.Set x y) (steps.Named from) comes blocked gives own = (tt, tt, λ z is. absurd (set_is_no_drop x y z is), own)
  by_step (moves.Drop x) steps.Dropped comes blocked gives own = (refl, tt, λ y is. gives tt, own)
  by_step move step comes blocked gives own = absurd comes

  pub move_did : (move : Move) (step : MoveStep) → MoveCalled told at move copied (tuple_bytes widened) old new before after (Ok step) → Called told at (stage_of_move move) copied copied widened widened values old new before after (Ok (after_move move step))
  move_did move step made =
      let does = by_step move step made.comes made.blocked made.given made.own in
      record {
        stepped = λ tells r same. step_by shape at.actor at.range r was (contents old.layout new.pages at.index) (lock_in old.layout before at.index) (lock_in old.layout after at.index) copied (tuple_bytes widened) move step made.comes (made.makes tells);
        stands = does.0;
        undamaged = λ tells. (by_move move).1;
        blocked = does.1;
        full = tt;
        others = made.others;
        order = made.order;
        locks = made.locks;
        at_full = tt;
        counts = (by_move move).0 made.counts;
        given = does.2;
        own = does.3;
        same_hand = tt;
        kept = tt;
        survives = made.survives;
        names = tt;
        outcome = made.outcome;
      }

  pub move_failed : (move : Move) (fault : MachineFault) → MoveCalled told at move copied (tuple_bytes widened) old new before after (Err fault) → Called told at (stage_of_move move) copied copied widened widened values old new before after (Err fault)
  move_failed move fault made = record {
    stepped = tt;
    stands = tt;
    undamaged = tt;
    blocked = tt;
    full = full_too old.layout old.layout at.index (λ number. Tells told old → Lacks move number) (λ number. Tells told old → IsLacking move number) fault refl (λ number full tells. (by_move move).2 number (full tells)) made.full;
    others = made.others;
    order = made.order;
    locks = made.locks;
    at_full = made.at_full;
    counts = (by_move move).0 made.counts;
    given = tt;
    own = tt;
    same_hand = refl;
    kept = made.kept;
    survives = made.survives;
    names = made.names;
    outcome = fault_too MoveStep (Stage × Did) told (Untold told old) (Tells told old → DamageAt shape was at.range (stage_of_move move)) old new fault (λ untold tells. absurd (untold tells)) made.outcome;
  }
