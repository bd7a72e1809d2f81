-- a step that is refused, or that waits
use Rattle.std.proofs.Common.{◌≡◌, ℕ, ◌≤◌, List, None, refl, sym, ap, subst, arith}
use Rattle.std.specs.Prelude.{Ok, Err}
use Rattle.disk_trait.specs.Told.{Told}
use Rattle.page_map.specs.declared.faults.MachineFault.TheVariants as faults
use Rattle.page_map.specs.declared.faults.StoreError.{StoreError}
use Rattle.page_map.specs.Keeps.{Keeps, Leaves, Tells}
use Rattle.page_map.specs.Outcome.{Outcome, Refused}
use Rattle.page_map.specs.PageMap.{PageMap, View, page_at}
use Rattle.page_locks.specs.declared.did.Did.{Did}
use Rattle.page_locks.specs.declared.did.Did.TheVariants as did
use Rattle.page_locks.specs.declared.held.Held.{Held}
use Rattle.page_locks.specs.LockCounts.{locks_of}
use Rattle.page_locks.specs.LockHolders.{LockState, holder}
use Rattle.heap_rows.specs.Survives.{Survives}
use Rattle.index_contents.specs.PageOrder.{IsIndexInOrder}
use Rattle.index_contents.specs.IndexContents.{contents, index_page, relation_of}
use Rattle.index_contents.specs.IndexChanges.{LeavesOthers}
use Rattle.index_steps.specs.IndexTuples.{shape_of}
use Rattle.index_steps.specs.Readings.{NamesPageOf}
use Rattle.index_steps.specs.StepAnswers.{BlockedWell}
use Rattle.index_steps.specs.SwapAnswers.{LeavesLocks, NamesHeld, TakesAtMost}
use Rattle.index_contents.specs.KeepsOrder.{KeepsOrder}
use Rattle.index_steps.specs.declared.growth_stage.Stage.{Stage}
use Rattle.index_steps.specs.declared.growth_stage.Stage.TheVariants as stages
use Rattle.index_steps.specs.Called.{Called, hand_at}
use Rattle.index_steps.specs.GrowthHands.{GrowthHand}
use Rattle.index_steps.specs.GrowthSteps.{StandsAfter, StepFull, StepWaits, StepsAt, growth_at}
use Rattle.index_steps.specs.StageLocks.{Gives, held_at, taken_at}
use Rattle.index_steps.specs.LockLaws.{same_apart, takes_none}

-- a store that stays
pub same_leaves : {D : Type 0} (told : D → Told) (store : View D) → Leaves told store store
same_leaves told store = record { layout = refl; tells = refl; faults = omega arith }

pub same_keeps : {D : Type 0} (told : D → Told) (store : View D) → Keeps told store store
same_keeps told store = record { leaves = same_leaves told store; pages = λ tells. refl }

module _ {D : Type 0} (told : D → Told) (old new : View D) (kept : Keeps told old new) where
  pub kept_others : (index : ℕ) → LeavesOthers told index old new
  kept_others index = record {
    leaves = kept.leaves;
    pages = λ tells place apart. ap (λ (m : PageMap). page_at m place) (kept.pages tells);
    indexes = λ tells other apart. ap (λ (m : PageMap). contents old.layout m other) (kept.pages tells);
  }

  pub kept_order : (index : ℕ) → KeepsOrder told index old new
  kept_order index tells order = subst (λ (m : PageMap). IsIndexInOrder old.layout.sizes.index_blocks (index_page old.layout m index)) (sym (kept.pages tells)) order

  module _ (actor : ℕ) (survives : Survives told (λ (passed : PageMap). passed ≡ old.pages) old new) where
    -- the page store refuses
    pub refused : (Cause : Type 0) (hand : GrowthHand) (moved : List ℕ) (before after : LockState) (error : StoreError) → LeavesLocks (holder before) (holder after) (relation_of old.layout hand.index) actor → TakesAtMost (taken_at hand.stage) before after actor
        → NamesPageOf old.layout hand.index error → Refused told Cause old new error → Called told actor Cause hand moved old new before after (Err (faults.Store error))
    refused Cause hand moved before after error locks counts at because = record {
      stepped = tt;
      stands = tt;
      blocked = tt;
      full = tt;
      others = kept_others hand.index;
      locks = locks;
      counts = counts;
      given = tt;
      own = tt;
      at_full = tt;
      kept = kept;
      order = kept_order hand.index;
      survives = survives;
      at = at;
      outcome = because;
    }

    -- no page is left
    pub full : (Cause : Type 0) (hand : GrowthHand) (moved : List ℕ) (locks : LockState) (relation number : ℕ) → relation ≡ relation_of old.layout hand.index
        → (Tells told old → StepFull (shape_of old.layout hand.index) actor (growth_at old.layout old.pages locks hand) number) → Outcome {T = ℕ} told Cause old new (Ok number)
        → Called told actor Cause hand moved old new locks locks (Err (faults.Full relation number))
    full Cause hand moved locks relation number is because done = record {
      stepped = tt;
      stands = tt;
      blocked = tt;
      full = (is, because);
      others = kept_others hand.index;
      locks = same_apart (relation_of old.layout hand.index) actor (holder locks);
      counts = takes_none (taken_at hand.stage) locks actor;
      given = tt;
      own = tt;
      at_full = refl;
      kept = kept;
      order = kept_order hand.index;
      survives = survives;
      at = tt;
      outcome = done;
    }

    -- another actor holds a lock
    pub waits : (Cause : Type 0) (index : ℕ) (was moved : List ℕ) (locks : LockState) (held : Held) → NamesHeld old.layout locks index actor held
        → (Tells told old → StepWaits (shape_of old.layout index) actor (growth_at old.layout old.pages locks (hand_at index stages.Judge was)) held.page.block)
        → (old.failed ≡ None) × (new.failed ≡ None) × ((told old.disk).faults ≤ (told new.disk).faults)
        → Called told actor Cause (hand_at index stages.Judge was) moved old new locks locks (Ok (stages.Judge, did.Blocked held))
    waits Cause index was moved locks held names because done = record {
      stepped = because;
      stands = (refl, refl);
      blocked = (names, refl, kept);
      full = tt;
      others = kept_others index;
      locks = same_apart (relation_of old.layout index) actor (holder locks);
      counts = takes_none 3 locks actor;
      given = λ gives. absurd gives;
      own = λ few. few;
      at_full = tt;
      kept = tt;
      order = kept_order index;
      survives = survives;
      at = tt;
      outcome = done;
    }

-- a step that is done
pub done : {D : Type 0} (told : D → Told) (actor : ℕ) (Cause : Type 0) (hand : GrowthHand) (moved : List ℕ) (old new : View D) (before after : LockState) (stage : Stage) (what : Did) → (Tells told old → StepsAt old.layout old.pages new.pages before after actor hand (hand_at hand.index stage moved) what)
    → StandsAfter hand (hand_at hand.index stage moved) what → BlockedWell told hand.index actor old new before after what → LeavesOthers told hand.index old new → LeavesLocks (holder before) (holder after) (relation_of old.layout hand.index) actor
    → TakesAtMost (taken_at hand.stage) before after actor → (Gives hand.stage what → locks_of after actor ≡ 0) → (locks_of before actor ≤ held_at hand.stage → locks_of after actor ≤ held_at stage) → KeepsOrder told hand.index old new
    → Survives told (λ (passed : PageMap). passed ≡ old.pages) old new → (old.failed ≡ None) × (new.failed ≡ None) × ((told old.disk).faults ≤ (told new.disk).faults) → Called told actor Cause hand moved old new before after (Ok (stage, what))
done told actor Cause hand moved old new before after stage what stepped stands blocked others locks counts given own order survives outcome = record {
  stepped = stepped;
  stands = stands;
  blocked = blocked;
  full = tt;
  others = others;
  locks = locks;
  counts = counts;
  given = given;
  own = own;
  at_full = tt;
  kept = tt;
  order = order;
  survives = survives;
  at = tt;
  outcome = outcome;
}
