-- a call for a step after one that changes no page
use Rattle.std.proofs.Common.{◌≡◌, ℕ, ◌≤◌, List, None, sym, ap, subst, ◌∙◌, arith}
use Rattle.std.specs.Prelude.{IfErr, Result, Ok, Err}
use Rattle.store_layout.specs.DiskLayout.{DiskLayout}
use Rattle.disk_trait.specs.Told.{Told}
use Rattle.page_map.specs.declared.faults.MachineFault.{MachineFault}
use Rattle.page_map.specs.declared.faults.MachineFault.TheVariants as faults
use Rattle.page_map.specs.declared.faults.StoreError.{StoreError}
use Rattle.page_map.specs.declared.faults.StoreError.TheVariants as errors
use Rattle.page_map.specs.Keeps.{Keeps, Tells, Untold, keeps_on, keeps_then}
use Rattle.page_map.specs.Outcome.{Refused}
use Rattle.page_map.specs.PageMap.{PageMap, View, page_at}
use Rattle.page_locks.specs.declared.did.Did.{Did}
use Rattle.page_locks.specs.declared.did.Did.TheVariants as did
use Rattle.page_locks.specs.LockHolders.{LockState, holder}
use Rattle.heap_rows.specs.Survives.{Survives}
use Rattle.heap_rows.specs.SurvivesLaws.{survives_on}
use Rattle.index_contents.specs.Calls.{refused_then}
use Rattle.index_contents.specs.IndexContents.{contents, index_page, relation_of}
use Rattle.index_contents.specs.IndexChanges.{LeavesOthers}
use Rattle.index_contents.specs.PageOrder.{IsIndexInOrder}
use Rattle.index_steps.specs.IndexTuples.{shape_of}
use Rattle.index_steps.specs.StepAnswers.{BlockedWell}
use Rattle.index_steps.specs.SwapAnswers.{FaultNamesPageOf, LeavesLocks, MachineOutcome, NamesHeld, SaysFullIn}
use Rattle.index_contents.specs.KeepsOrder.{KeepsOrder}
use Rattle.index_steps.specs.declared.growth_stage.Stage.{Stage}
use Rattle.index_steps.specs.Called.{Called, hand_at}
use Rattle.index_steps.specs.GrowthHands.{GrowthHand}
use Rattle.index_steps.specs.GrowthSteps.{StepFull, StepsAt, growth_at}
use Rattle.index_steps.proofs.Arms.{err_too, ok_too, on_err_too}

-- a full index is one for each reason that follows
pub full_too : (l1 l : DiskLayout) (index : ℕ) (P Q : ℕ → Type 0) (fault : MachineFault) → l1 ≡ l → ((number : ℕ) → P number → Q number) → SaysFullIn l1 index P fault → SaysFullIn l index Q fault
full_too l1 l index P Q (faults.Full relation number) same follows (is, full) = (is ∙ ap (λ (a : DiskLayout). relation_of a index) same, follows number full)
full_too l1 l index P Q (faults.Store error) same follows says = tt
full_too l1 l index P Q faults.Memory same follows never = absurd never

module _ {D : Type 0} (told : D → Told) (old mid new : View D) (kept : Keeps told old mid) where
  -- what is left of the other relations and indexes
  pub leaves_on : (index : ℕ) → LeavesOthers told index mid new → LeavesOthers told index old new
  leaves_on index others = record {
    leaves = keeps_then told old mid new kept others.leaves;
    pages = λ tells place apart.
        others.pages (kept.leaves.tells ∙ tells) place (λ at. apart (at ∙ ap (λ (l : DiskLayout). relation_of l index) kept.leaves.layout)) ∙ ap (λ (m : PageMap). page_at m place) (kept.pages tells);
    indexes = λ tells other apart.
        subst (λ (l : DiskLayout). contents l new.pages other ≡ contents l mid.pages other) kept.leaves.layout (others.indexes (kept.leaves.tells ∙ tells) other apart)
        ∙ ap (λ (m : PageMap). contents old.layout m other) (kept.pages tells);
  }

  order_on : (index : ℕ) → KeepsOrder told index mid new → KeepsOrder told index old new
  order_on index keeps tells order =
      let here : IsIndexInOrder mid.layout.sizes.index_blocks (index_page mid.layout mid.pages index) =
      subst (λ (l : DiskLayout). IsIndexInOrder l.sizes.index_blocks (index_page l mid.pages index)) (sym kept.leaves.layout)
      (subst (λ (m : PageMap). IsIndexInOrder old.layout.sizes.index_blocks (index_page old.layout m index)) (sym (kept.pages tells)) order) in
      subst (λ (l : DiskLayout). IsIndexInOrder l.sizes.index_blocks (index_page l new.pages index)) kept.leaves.layout (keeps (kept.leaves.tells ∙ tells) here)

  blocked_on : (index actor : ℕ) (before after : LockState) (done : Did) → BlockedWell told index actor mid new before after done → BlockedWell told index actor old new before after done
  blocked_on index actor before after (did.Moved point) well = tt
  blocked_on index actor before after (did.Finished point) well = tt
  blocked_on index actor before after (did.Blocked held) (names, same, keeps) =
      (subst (λ (l : DiskLayout). NamesHeld l before index actor held) kept.leaves.layout names, same, keeps_on told old mid new kept keeps)
  blocked_on index actor before after (did.NoRight by) well = tt

  module _ (was : old.failed ≡ None) (between : mid.failed ≡ None) (later : (told old.disk).faults ≤ (told mid.disk).faults) where
    pub machine_on : {T : Type 0} (result : Result T MachineFault) → MachineOutcome told (Untold told mid) mid new result → MachineOutcome told (Untold told old) old new result
    machine_on (Ok value) (is, now, more) = (was, now, omega (arith, later, more))
    machine_on (Err (faults.Full relation number)) (is, now, more) = (was, now, omega (arith, later, more))
    machine_on (Err (faults.Store error)) refused = refused_then told old mid new error kept was between later refused
    machine_on (Err faults.Memory) never = absurd never

    pub called_on : (actor : ℕ) (hand : GrowthHand) (moved : List ℕ) (before after : LockState) (result : Result (Stage × Did) MachineFault) → Survives told (λ (passed : PageMap). passed ≡ old.pages) old mid
        → Called told actor (Untold told mid) hand moved mid new before after result → Called told actor (Untold told old) hand moved old new before after result
    called_on actor hand moved before after result survives called = record {
      stepped = ok_too (λ o. Tells told mid → StepsAt mid.layout mid.pages new.pages before after actor hand (hand_at hand.index o.0 moved) o.1) (λ o. Tells told old → StepsAt old.layout old.pages new.pages before after actor hand (hand_at hand.index o.0 moved) o.1) result
          (λ o steps tells. subst (λ (l : DiskLayout). StepsAt l old.pages new.pages before after actor hand (hand_at hand.index o.0 moved) o.1) kept.leaves.layout
          (subst (λ (m : PageMap). StepsAt mid.layout m new.pages before after actor hand (hand_at hand.index o.0 moved) o.1) (kept.pages tells) (steps (kept.leaves.tells ∙ tells)))) called.stepped;
      stands = called.stands;
      blocked = ok_too (λ o. BlockedWell told hand.index actor mid new before after o.1) (λ o. BlockedWell told hand.index actor old new before after o.1) result (λ o. blocked_on hand.index actor before after o.1) called.blocked;
      full = err_too (SaysFullIn mid.layout hand.index (λ number. Tells told mid → StepFull (shape_of mid.layout hand.index) actor (growth_at mid.layout mid.pages before hand) number))
          (SaysFullIn old.layout hand.index (λ number. Tells told old → StepFull (shape_of old.layout hand.index) actor (growth_at old.layout old.pages before hand) number)) result
          (λ fault. full_too mid.layout old.layout hand.index (λ number. Tells told mid → StepFull (shape_of mid.layout hand.index) actor (growth_at mid.layout mid.pages before hand) number)
          (λ number. Tells told old → StepFull (shape_of old.layout hand.index) actor (growth_at old.layout old.pages before hand) number) fault kept.leaves.layout
          (λ number full tells. subst (λ (l : DiskLayout). StepFull (shape_of l hand.index) actor (growth_at l old.pages before hand) number) kept.leaves.layout
          (subst (λ (m : PageMap). StepFull (shape_of mid.layout hand.index) actor (growth_at mid.layout m before hand) number) (kept.pages tells) (full (kept.leaves.tells ∙ tells))))) called.full;
      others = leaves_on hand.index called.others;
      locks = subst (λ (l : DiskLayout). LeavesLocks (holder before) (holder after) (relation_of l hand.index) actor) kept.leaves.layout called.locks;
      counts = called.counts;
      given = called.given;
      own = called.own;
      at_full = called.at_full;
      kept = on_err_too result (keeps_on told old mid new kept) called.kept;
      order = order_on hand.index called.order;
      survives = survives_on told old mid new kept survives called.survives;
      at = subst (λ (l : DiskLayout). IfErr result (FaultNamesPageOf l hand.index)) kept.leaves.layout called.at;
      outcome = machine_on result called.outcome;
    }

-- damage for a cause, for each cause that follows
pub refused_too : {D : Type 0} (told : D → Told) (Cause Other : Type 0) (old new : View D) (error : StoreError) → (Cause → Other) → Refused told Cause old new error → Refused told Other old new error
refused_too told Cause Other old new errors.Disk follows refused = refused
refused_too told Cause Other old new (errors.Reopen faults) follows refused = refused
refused_too told Cause Other old new (errors.Damaged at) follows (was, now, more, because) = (was, now, more, follows because)

pub fault_too : {D : Type 0} (T U : Type 0) (told : D → Told) (Cause Other : Type 0) (old new : View D) (fault : MachineFault) → (Cause → Other) → MachineOutcome {T = T} told Cause old new (Err fault) → MachineOutcome {T = U} told Other old new (Err fault)
fault_too T U told Cause Other old new (faults.Full relation number) follows done = done
fault_too T U told Cause Other old new (faults.Store error) follows refused = refused_too told Cause Other old new error follows refused
fault_too T U told Cause Other old new faults.Memory follows never = absurd never

pub machine_too : {D T : Type 0} (told : D → Told) (Cause Other : Type 0) (old new : View D) (result : Result T MachineFault) → (Cause → Other) → MachineOutcome told Cause old new result → MachineOutcome told Other old new result
machine_too told Cause Other old new (Ok value) follows done = done
machine_too {T = T} told Cause Other old new (Err fault) follows done = fault_too T T told Cause Other old new fault follows done

pub called_too : {D : Type 0} (told : D → Told) (actor : ℕ) (Cause Other : Type 0) (hand : GrowthHand) (moved : List ℕ) (old new : View D) (before after : LockState) (result : Result (Stage × Did) MachineFault) → (Cause → Other)
    → Called told actor Cause hand moved old new before after result → Called told actor Other hand moved old new before after result
called_too told actor Cause Other hand moved old new before after result follows called = record {
  stepped = called.stepped;
  stands = called.stands;
  blocked = called.blocked;
  full = called.full;
  others = called.others;
  locks = called.locks;
  counts = called.counts;
  given = called.given;
  own = called.own;
  at_full = called.at_full;
  kept = called.kept;
  order = called.order;
  survives = called.survives;
  at = called.at;
  outcome = machine_too told Cause Other old new result follows called.outcome;
}
