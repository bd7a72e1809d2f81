-- what a call for a step of a summarise at a range did, by what the calls below say
use Rattle.std.proofs.Common.{◌≡◌, ℕ, ◌≤◌, ◌<◌, refl, ap, ◌∙◌, arith}
use Rattle.std.specs.Prelude.{IfOk, OnOk, Result, Ok, Err}
use Rattle.disk_trait.specs.Told.{Told}
use Rattle.page_map.specs.declared.faults.MachineFault.{MachineFault}
use Rattle.page_map.specs.Keeps.{Tells, Untold}
use Rattle.page_map.specs.PageMap.{View}
use Rattle.page_locks.specs.declared.did.Did.{Did}
use Rattle.page_locks.specs.LockCounts.{locks_of}
use Rattle.page_locks.specs.LockHolders.{LockState, holder}
use Rattle.heap_rows.specs.HeapBlocks.{OfBlocks}
use Rattle.range_tuple.specs.TupleBytes.{tuple_bytes}
use Rattle.coverage.specs.IndexView.{Passing}
use Rattle.coverage.specs.Waiting.{FinalFull}
use Rattle.index_contents.specs.IndexContents.{IndexContents, contents, relation_of}
use Rattle.index_contents.specs.OrderLaws.{order_kept}
use Rattle.index_steps.specs.declared.growth_stage.Stage.{Stage as GrowthStage}
use Rattle.index_steps.specs.declared.growth_stage.Stage.TheVariants as growth
use Rattle.index_steps.specs.declared.moves.Move.{Move}
use Rattle.index_steps.specs.declared.moves.Move.TheVariants as moves
use Rattle.index_steps.specs.declared.moves.MoveStep.{MoveStep}
use Rattle.index_steps.specs.declared.moves.MoveStep.TheVariants as steps
use Rattle.index_steps.specs.declared.swapping.Within.{Within}
use Rattle.index_steps.specs.GrowthHands.{GrowthHand}
use Rattle.index_steps.specs.IndexTuples.{IndexShape, seen, shape_of}
use Rattle.index_steps.specs.LockLaws.{same_apart, takes_none}
use Rattle.index_steps.specs.Moves.{Comes, GivesBy, MoveBlocked, MoveCalled, MoveFull, held_after, held_to_move, taken_to_move}
use Rattle.index_steps.specs.OnlyReads.{OnlyReads}
use Rattle.index_steps.specs.ShownIndex.{lock_in}
use Rattle.index_steps.specs.StepAnswers.{BlockedWell, IsOfStore, NeverBlocked}
use Rattle.index_steps.specs.SwapAnswers.{FaultNamesPageOf, SaysFullIn, StaysWhereFull, TakesAtMost}
use Rattle.index_steps.proofs.Arms.{err_too, ok_all, ok_too, on_err_of, on_ok_of}
use Rattle.index_steps.proofs.Onward.{fault_too, full_too}
use Rattle.index_steps.proofs.OnlyReading.{never_waits, none_full, of_store}
use Rattle.index_steps.proofs.Refusals.{kept_others}
use Rattle.summarise_core.specs.declared.range_stage.Stage.{Stage}
use Rattle.summarise_core.specs.declared.work.Work.{Work}
use Rattle.summarise_core.specs.ExactSummaries.{IsExactAt}
use Rattle.summarise_core.specs.ShownHeap.{Heap, heap_of}
use Rattle.summarise_core.specs.StepCauses.{DamageAt, NamesPageAt}
use Rattle.summarise_core.specs.StageLocks.{GivesAt, held_at, taken_at}
use Rattle.summarise_core.specs.SummariseCalled.{Called, after_move, stage_of_move}
use Rattle.summarise_core.specs.SummariseHands.{GrowsToPlace, IsHandOf, table_of}
use Rattle.summarise_core.specs.SummariseSteps.{RestsBlocked, StandsAfter, StepFull, StepsAt, summarise_at}
use Rattle.summarise_core.specs.Works.{hand_of}
use Rattle.summarise_core.proofs.Locking.{grows_nowhere, never_rests}
use Rattle.summarise_core.proofs.Stepped.{step_by}

-- a call that only reads, with no growth under way
module _ {D : Type 0} (told : D → Told) (at : Within) (stage : Stage) (was is : Work) (old new : View D) (locks : LockState) where
  abbrev pub Steps : Stage × Did → Type 0
  Steps o = OfBlocks told old (table_of old.layout at.index) (λ blocks. StepsAt old.layout old.pages new.pages locks locks at (heap_of old.layout at.index blocks) (hand_of stage was) (hand_of o.0 is) o.1)

  abbrev pub StaysExact : Stage × Did → Type 0
  StaysExact o = OfBlocks told old (table_of old.layout at.index) (λ blocks. IsExactAt (shape_of old.layout at.index) (heap_of old.layout at.index blocks) at.range (hand_of stage was) stage
      → IsExactAt (shape_of old.layout at.index) (heap_of old.layout at.index blocks) at.range (hand_of o.0 is) o.0)

  abbrev IsFull : ℕ → Type 0
  IsFull number = Tells told old → StepFull (shape_of old.layout at.index) at.actor at.range (summarise_at old.layout old.pages locks at.index (hand_of stage was)) number

  abbrev Damages : Type 0
  Damages = DamageAt old.layout old.pages at.index at.range (hand_of stage was) stage

  pub read_called : (result : Result (Stage × Did) MachineFault) → held_at was.growth.stage stage ≡ 0 → (GivesAt was.growth.stage stage → ⊥) → was.growth.stage ≡ growth.Judge → is.growth ≡ was.growth → IsHandOf old.layout at.index (hand_of stage is)
      → IfOk result Steps → IfOk result StaysExact → IfOk result (λ o. (at : GrowthStage) → StandsAfter at stage o.0 o.1) → OnOk result (Tells told old → Damages → ⊥)
      → OnlyReads told (NamesPageAt old.layout at.index stage) (Tells told old → Damages) old new result → Called told at stage was is old new locks locks result
  read_called result none gives rests same of stepped exact stands undamaged reads = record {
    stepped = stepped;
    exact = exact;
    stands = ok_too (λ o. (at : GrowthStage) → StandsAfter at stage o.0 o.1) (λ o. StandsAfter was.growth.stage stage o.0 o.1) result (λ o stands. stands was.growth.stage) stands;
    rests = ok_too (λ o. NeverBlocked o.1) (λ o. RestsBlocked (hand_of stage was) (hand_of o.0 is) o.1) result (λ o. never_rests (hand_of stage was) (hand_of o.0 is) o.1) reads.never_blocked;
    of = of;
    grows = ok_all (λ o. GrowsToPlace is.growth.stage o.0) result (λ o. grows_nowhere is.growth.stage o.0 (ap (λ (h : GrowthHand). h.stage) same ∙ rests));
    stays = on_err_of result (ap (λ (h : GrowthHand). h.stage) same);
    blocked = ok_too (λ o. NeverBlocked o.1) (λ o. BlockedWell told at.index at.actor old new locks locks o.1) result (λ o. never_waits told at.index at.actor old new locks locks o.1) reads.never_blocked;
    full = err_too IsOfStore (SaysFullIn old.layout at.index IsFull) result (of_store old.layout at.index IsFull) reads.of_store;
    at_full = err_too IsOfStore (StaysWhereFull locks locks) result (none_full locks locks) reads.of_store;
    others = kept_others told old new reads.kept at.index;
    order = order_kept told at.index old new reads.kept;
    locks = same_apart (relation_of old.layout at.index) at.actor (holder locks);
    counts = takes_none (taken_at was.growth.stage stage) locks at.actor;
    given = on_ok_of result (λ given. absurd (gives given));
    own = ok_all (λ o. locks_of locks at.actor ≤ held_at was.growth.stage stage → locks_of locks at.actor ≤ held_at is.growth.stage o.0) result (λ o few. omega (arith, none, few));
    survives = reads.survives;
    kept = on_err_of result reads.kept;
    undamaged = undamaged;
    names = reads.names;
    outcome = reads.outcome;
  }

-- a step of the move
module _ {D : Type 0} (told : D → Told) (at : Within) (work : Work) (old new : View D) (before after : LockState) where
  abbrev shape : IndexShape
  shape = shape_of old.layout at.index

  abbrev there : IndexContents
  there = contents old.layout old.pages at.index

  abbrev grown : GrowthStage
  grown = work.growth.stage

  abbrev Lacks : Move → ℕ → Type 0
  Lacks move number = MoveFull shape there (lock_in old.layout before at.index) at.actor at.range (seen shape work.copied) (seen shape (tuple_bytes work.united)) move number

  abbrev IsLacking : Move → ℕ → Type 0
  IsLacking move number = StepFull shape at.actor at.range (summarise_at old.layout old.pages before at.index (hand_of (stage_of_move move) work)) number

  abbrev Harms : Move → Type 0
  Harms move = DamageAt old.layout old.pages at.index at.range (hand_of (stage_of_move move) work) (stage_of_move move)

  by_move : (move : Move) → (TakesAtMost (taken_to_move move) before after at.actor → TakesAtMost (taken_at grown (stage_of_move move)) before after at.actor) × (Harms move → ⊥) × ((number : ℕ) → Lacks move number → IsLacking move number)
      × ((fault : MachineFault) → FaultNamesPageOf old.layout at.index fault → NamesPageAt old.layout at.index (stage_of_move move) fault)
  by_move (moves.Swap x) = (
    λ takes. takes,
    λ harm. harm,
    λ number full w shows. FinalFull number (Passing work.extent work.next (seen shape (tuple_bytes work.running))) x (seen shape work.copied) (seen shape (tuple_bytes work.united)) (full w shows),
    λ fault names. names,
  )
  by_move (moves.Set x y) = (λ takes. takes, λ harm. harm, λ number never. absurd never, λ fault names. names)
  by_move (moves.Drop x) = (λ takes. takes, λ harm. harm, λ number never. absurd never, λ fault names. names)

  by_step : (move : Move) (step : MoveStep) → Comes move step → MoveBlocked told at.index at.actor old new before after step → (GivesBy step → locks_of after at.actor ≡ 0) → (locks_of before at.actor ≤ held_to_move move → locks_of after at.actor ≤ held_after step)
      → StandsAfter grown (stage_of_move move) (after_move move step).0 (after_move move step).1 × RestsBlocked (hand_of (stage_of_move move) work) (hand_of (after_move move step).0 work) (after_move move step).1
      × BlockedWell told at.index at.actor old new before after (after_move move step).1 × (GivesAt grown (stage_of_move move) → locks_of after at.actor ≡ 0)
      × (locks_of before at.actor ≤ held_at grown (stage_of_move move) → locks_of after at.actor ≤ held_at grown (after_move move step).0)
      × ((heap : Heap) → IsExactAt shape heap at.range (hand_of (stage_of_move move) work) (stage_of_move move) → IsExactAt shape heap at.range (hand_of (after_move move step).0 work) (after_move move step).0)
  by_step (moves.Swap x) steps.InPlace comes blocked gives own = (tt, tt, tt, λ given. absurd given, own, λ heap exact. tt)
  by_step (moves.Swap x) steps.Differs comes blocked gives own = (tt, tt, tt, λ given. absurd given, own, λ heap exact. exact.0.0)
  by_step (moves.Swap x) (steps.Waits held) comes blocked gives own = let some : 0 < 3 = omega arith in ((some, refl), refl, blocked, λ given. absurd given, own, λ heap exact. exact)
  by_step (moves.Swap x) (steps.Put from y) comes blocked gives own = (tt, tt, tt, λ given. absurd given, own, λ heap exact. exact)
  by_step (moves.Set x y) (steps.Named from) comes blocked gives own = (tt, tt, tt, λ given. absurd given, own, λ heap exact. tt)
  by_step (moves.Drop x) steps.Dropped comes blocked gives own = (tt, tt, tt, λ given. gives tt, own, λ heap exact. tt)
  by_step move step comes blocked gives own = absurd comes

  module _ (move : Move) (of : IsHandOf old.layout at.index (hand_of (stage_of_move move) work)) (rests : grown ≡ growth.Judge) where
    pub move_did : (step : MoveStep) → MoveCalled told at move work.copied (tuple_bytes work.united) old new before after (Ok step) → Called told at (stage_of_move move) work work old new before after (Ok (after_move move step))
    move_did step made =
        let does = by_step move step made.comes made.blocked made.given made.own in
        record {
          stepped = λ tells blocks has. step_by shape (heap_of old.layout at.index blocks) at.actor at.range there (contents old.layout new.pages at.index) (lock_in old.layout before at.index) (lock_in old.layout after at.index) work move step made.comes (made.makes tells);
          exact = λ tells blocks has. does.5 (heap_of old.layout at.index blocks);
          stands = does.0;
          rests = does.1;
          of = of;
          grows = grows_nowhere grown (after_move move step).0 rests;
          stays = tt;
          blocked = does.2;
          full = tt;
          at_full = tt;
          others = made.others;
          order = made.order;
          locks = made.locks;
          counts = (by_move move).0 made.counts;
          given = does.3;
          own = does.4;
          survives = made.survives;
          kept = tt;
          undamaged = λ tells. (by_move move).1;
          names = tt;
          outcome = made.outcome;
        }

    pub move_failed : (fault : MachineFault) → MoveCalled told at move work.copied (tuple_bytes work.united) old new before after (Err fault) → Called told at (stage_of_move move) work work old new before after (Err fault)
    move_failed fault made = record {
      stepped = tt;
      exact = tt;
      stands = tt;
      rests = tt;
      of = of;
      grows = tt;
      stays = refl;
      blocked = tt;
      full = full_too old.layout old.layout at.index (λ number. Tells told old → Lacks move number) (λ number. Tells told old → IsLacking move number) fault refl (λ number full tells. (by_move move).2 number (full tells)) made.full;
      at_full = made.at_full;
      others = made.others;
      order = made.order;
      locks = made.locks;
      counts = (by_move move).0 made.counts;
      given = tt;
      own = tt;
      survives = made.survives;
      kept = made.kept;
      undamaged = tt;
      names = (by_move move).3 fault made.names;
      outcome = fault_too MoveStep (Stage × Did) told (Untold told old) (Tells told old → Harms move) old new fault (λ untold tells. absurd (untold tells)) made.outcome;
    }
