-- a store behind a step of a session's statement
use Rattle.std.proofs.Common.{◌≡◌, inl, inr, ℕ, ◌<◌, List, length, set, Option, None, Some, IfSome, OnOk, OnErr, IfOk, IfErr, Result, refl, sym, subst, ◌∙◌, arith, length-set}
use Rattle.std.proofs.lemmas.Bool.{cases_lt}
use Rattle.std.proofs.lemmas.Option.{none-some}
use Rattle.disk_trait.specs.Told.{Told}
use Rattle.page_map.specs.Keeps.{Leaves, Tells}
use Rattle.script_semantics.specs.Place.{Place}
use Rattle.store_layout.specs.DiskLayout.{DiskLayout}
use Rattle.session_parts.specs.declared.faults.Step.{Step}
use Rattle.session_parts.specs.declared.faults.StoreFault.{StoreFault}
use Rattle.session_parts.specs.declared.faults.StoreFault.TheVariants as stops
use Rattle.session_parts.specs.declared.hand.Hand.{Hand}
use Rattle.session_parts.specs.declared.hand.Stepped.{Stepped}
use Rattle.session_parts.specs.declared.hand.Stepped.TheVariants as stepped
use Rattle.session_parts.specs.declared.parts.Parts.{Parts}
use Rattle.session_parts.specs.ShowsPlace.{ShowsPlace}
use Rattle.session_parts.specs.StepAnswers.{HasCause, HasFaultCause, IsHolderOf, LeavesSessions, StaysReady, StaysWhereUndone}
use Rattle.session_parts.specs.StepIs.{LeadsOn, StepIs, answer_of, hand_after}
use Rattle.session_parts.specs.StoreLaws.{HasHand}
use Rattle.session_parts.specs.UndoneLaws.{StepsSo}
use Rattle.session_parts.specs.StoreStates.{StoreState, hand_at, hand_in, store_of, with_hand}
use Rattle.session_core.specs.SessionLaws.{SessionLaws}
use Rattle.session_core.specs.SessionLists.{slot_in}
use Rattle.session_core.specs.Slots.{IsKeptSlot}
use Rattle.session_core.specs.Sessions.{IsInHandThen, IsSameStatement, LeavesTheRest, NamesASession, StaysStill, TellsJournal, WaitsForAnother}
use Rattle.session_core.specs.declared.slots.Slot.{Slot}
use Rattle.session_core.specs.StoreKept.{IsStoreKept}
use Rattle.session_starts.specs.Stops.{StopsSo}
use Rattle.session_core.proofs.Kept.{fits_now, nobody_now, promised_now, session_below}
use Rattle.session_core.proofs.Lists.{slots_set}

-- all that a step of the store promises
pub record IsStepOf {D : Type 0} (told : D → Told) (old new : StoreState D) (n : ℕ) (answer : Result Step StoreFault) : Type 0 where
  pub steps : LeadsOn told old new (λ p q. StepIs p n answer q)
  pub hand : IsInHandThen answer (hand_at new n)
  pub holder : IfOk answer (NamesASession (length old.names))
  pub waits : IfOk answer (WaitsForAnother old n)
  pub names : new.names ≡ old.names
  pub others : LeavesTheRest told old new n
  pub statement : IsSameStatement (hand_at old n) (hand_at new n)
  pub still : StaysStill told old new answer
  pub leaves : Leaves told old.pages new.pages
  pub journal : OnErr answer (new.journal.entries ≡ old.journal.entries)
  pub ready : OnOk answer (StaysReady old.pages new.pages)
  pub cause : IfErr answer (HasFaultCause told old.pages new.pages)
  pub journal_told : IfErr answer (TellsJournal old (hand_at old n))
  pub survives : IfSome (hand_at old n) (λ hand. StopsSo told old.transactions n old.pages new.pages hand answer)

-- ---- of each answer

hand_then : (answer : Stepped) → IsInHandThen (answer_of answer) (hand_after answer)
hand_then (stepped.Moved point hand) = refl
hand_then (stepped.Done reply) = refl
hand_then (stepped.Blocked what holder hand) = refl
hand_then (stepped.Undone fault hand) = refl

module _ {D : Type 0} (told : D → Told) (old new : StoreState D) (n : ℕ) (hand : Hand) where
  enters_nothing : (answer : Stepped) → StaysWhereUndone told old new n hand answer → OnErr (answer_of answer) (new.journal.entries ≡ old.journal.entries)
  enters_nothing (stepped.Moved point now) stays = tt
  enters_nothing (stepped.Done reply) stays = tt
  enters_nothing (stepped.Blocked what holder now) stays = tt
  enters_nothing (stepped.Undone (stops.Spent entries) now) stays = stays.0.journal
  enters_nothing (stepped.Undone stops.Disk now) stays = stays.0
  enters_nothing (stepped.Undone (stops.Reopen faults) now) stays = stays.0
  enters_nothing (stepped.Undone (stops.Damaged at) now) stays = stays.0

  stays_still : (answer : Stepped) → StaysWhereUndone told old new n hand answer → StaysStill told old new (answer_of answer)
  stays_still (stepped.Moved point now) stays = tt
  stays_still (stepped.Done reply) stays = tt
  stays_still (stepped.Blocked what holder now) stays = stays.0
  stays_still (stepped.Undone (stops.Spent entries) now) stays = stays.0
  stays_still (stepped.Undone stops.Disk now) stays = tt
  stays_still (stepped.Undone (stops.Reopen faults) now) stays = tt
  stays_still (stepped.Undone (stops.Damaged at) now) stays = tt

  pub stays_the_same : (answer : Stepped) → StaysWhereUndone told old new n hand answer → IsSameStatement (Some hand) (hand_after answer)
  stays_the_same (stepped.Moved point now) stays = stays
  stays_the_same (stepped.Done reply) stays = tt
  stays_the_same (stepped.Blocked what holder now) stays = stays.1
  stays_the_same (stepped.Undone (stops.Spent entries) now) stays = stays.1
  stays_the_same (stepped.Undone stops.Disk now) stays = stays.1
  stays_the_same (stepped.Undone (stops.Reopen faults) now) stays = stays.1
  stays_the_same (stepped.Undone (stops.Damaged at) now) stays = stays.1

  stays_ready : (answer : Stepped) → HasCause told old.pages new.pages answer → OnOk (answer_of answer) (StaysReady old.pages new.pages)
  stays_ready (stepped.Moved point now) cause = cause
  stays_ready (stepped.Done reply) cause = cause
  stays_ready (stepped.Blocked what holder now) cause = cause
  stays_ready (stepped.Undone fault now) cause = tt

  fault_cause : (answer : Stepped) → HasCause told old.pages new.pages answer → IfErr (answer_of answer) (HasFaultCause told old.pages new.pages)
  fault_cause (stepped.Moved point now) cause = tt
  fault_cause (stepped.Done reply) cause = tt
  fault_cause (stepped.Blocked what holder now) cause = tt
  fault_cause (stepped.Undone fault now) cause = cause

  -- where no disk fault is kept then, none was kept
  was_ready : (answer : Stepped) → HasCause told old.pages new.pages answer → new.pages.failed ≡ None → old.pages.failed ≡ None
  was_ready (stepped.Moved point now) cause ready = cause.0
  was_ready (stepped.Done reply) cause ready = cause.0
  was_ready (stepped.Blocked what holder now) cause ready = cause.0
  was_ready (stepped.Undone (stops.Spent entries) now) cause ready = cause.0
  was_ready (stepped.Undone stops.Disk now) cause ready = cause.0
  was_ready (stepped.Undone (stops.Reopen faults) now) cause ready = absurd (none-some _ (sym ready ∙ cause.1))
  was_ready (stepped.Undone (stops.Damaged at) now) cause ready = cause.0.0

  holder_is : (answer : Stepped) → ((m : ℕ) → IsHolderOf old n m → m < length old.names) → StaysWhereUndone told old new n hand answer → IfOk (answer_of answer) (NamesASession (length old.names))
  holder_is (stepped.Moved point now) session stays = tt
  holder_is (stepped.Done reply) session stays = tt
  holder_is (stepped.Blocked what holder now) session stays = session holder stays.2
  holder_is (stepped.Undone fault now) session stays = tt

  waits_is : (answer : Stepped) → StaysWhereUndone told old new n hand answer → IfOk (answer_of answer) (WaitsForAnother old n)
  waits_is (stepped.Moved point now) stays = tt
  waits_is (stepped.Done reply) stays = tt
  waits_is (stepped.Blocked what holder now) stays = stays.2
  waits_is (stepped.Undone fault now) stays = tt

  journal_is : (answer : Stepped) → StaysWhereUndone told old new n hand answer → IfErr (answer_of answer) (TellsJournal old (Some hand))
  journal_is (stepped.Moved point now) stays = tt
  journal_is (stepped.Done reply) stays = tt
  journal_is (stepped.Blocked what holder now) stays = tt
  journal_is (stepped.Undone (stops.Spent entries) now) stays = (stays.2, stays.3)
  journal_is (stepped.Undone stops.Disk now) stays = tt
  journal_is (stepped.Undone (stops.Reopen faults) now) stays = tt
  journal_is (stepped.Undone (stops.Damaged at) now) stays = tt

module _ {D : Type 0} (told : D → Told) (laws : SessionLaws told) (parts : Parts D) (names : List (List ℕ)) (hands : List (Option Hand)) (slots : List Slot)
    (kept : IsStoreKept told (store_of parts names hands) slots) (new : Parts D) (n : ℕ) (hand : Hand) (is : hand_in hands n ≡ Some hand) (answer : Stepped)
    (so : StepsSo told parts new n hand answer) where
  abbrev now : List (Option Hand)
  now = with_hand hands n (hand_after answer)

  abbrev before : StoreState D
  before = store_of parts names hands

  abbrev after : StoreState D
  after = store_of new names now

  others : LeavesSessions told before after n
  others = so.others names hands is

  changes : HasHand hands now n (hand_after answer)
  changes = laws.changes hands n hand (hand_after answer) is

  there : n < length names
  there = session_below told laws parts names hands slots kept n hand is

  shown_now : Tells told new.pages → new.pages.failed ≡ None → (p : Place) × ShowsPlace after p
  shown_now tells ready =
      let told_before = sym others.leaves.tells ∙ tells in
      let ready_before = was_ready told before after n hand answer so.cause ready in
      let was = kept.shown told_before ready_before in
      let led = so.steps names hands is told_before ready_before ready was.0 was.1 in
      (led.0, led.1)

  -- a number that holds something is one of a session
  is_session : (m : ℕ) → IsHolderOf before n m → m < length names
  is_session m holds = elim (cases_lt m (length names)) [
    | inl low ↦ low
    | inr high ↦ absurd (elim holds.1 [
      | inl locks ↦ omega (arith, locks, (kept.nobody m high).locks)
      | inr right ↦ (kept.nobody m high).rights right.0 right.1
    ])
  ]

  pub kept_behind : (slot : Slot) → IsKeptSlot parts.pages.layout slot → IsStoreKept told after (set slots n slot)
  kept_behind slot fits = record {
    few_sessions = kept.few_sessions;
    a_hand_each = length-set hands n (hand_after answer) ∙ kept.a_hand_each;
    a_slot_each = length-set slots n slot ∙ kept.a_slot_each;
    fits = fits_now told laws parts names hands slots kept new n now (hand_after answer) there changes (so.fit names hands is) others;
    nobody = nobody_now told laws parts names hands slots kept new n now (hand_after answer) there changes (so.fit names hands is) others;
    promised = promised_now told laws parts names hands slots kept new n now (hand_after answer) there changes (so.fit names hands is) others;
    slot = subst (λ (layout : DiskLayout). (m : ℕ) → IsKeptSlot layout (slot_in (set slots n slot) m)) (sym others.leaves.layout)
        (slots_set (IsKeptSlot parts.pages.layout) slots n slot (omega (arith, there, kept.a_slot_each)) kept.slot fits);
    shown = shown_now;
  }

  pub is_step : StopsSo told before.transactions n before.pages after.pages hand (answer_of answer) → IsStepOf told before after n (answer_of answer)
  is_step stops = record {
    steps = so.steps names hands is;
    hand = subst (λ (h : Option Hand). IsInHandThen (answer_of answer) h) (sym changes.own) (hand_then answer);
    holder = holder_is told before after n hand answer is_session (so.stays names hands is);
    waits = waits_is told before after n hand answer (so.stays names hands is);
    names = refl;
    others = record { hands = changes.others; sessions = others };
    statement = subst (λ (h : Option Hand). IsSameStatement h (hand_in now n)) (sym is)
        (subst (λ (h : Option Hand). IsSameStatement (Some hand) h) (sym changes.own) (stays_the_same told before after n hand answer (so.stays names hands is)));
    still = stays_still told before after n hand answer (so.stays names hands is);
    leaves = others.leaves;
    journal = enters_nothing told before after n hand answer (so.stays names hands is);
    ready = stays_ready told before after n hand answer so.cause;
    cause = fault_cause told before after n hand answer so.cause;
    journal_told = subst (λ (h : Option Hand). IfErr (answer_of answer) (TellsJournal before h)) (sym is) (journal_is told before after n hand answer (so.stays names hands is));
    survives = subst (λ (h : Option Hand). IfSome h (λ was. StopsSo told before.transactions n before.pages after.pages was (answer_of answer))) (sym is) stops;
  }

-- the same step, of the same stores
pub step_as : {D : Type 0} (told : D → Told) (old before : StoreState D) (new : Parts D) (names more : List (List ℕ)) (hands now : List (Option Hand)) (n : ℕ) (answer told_so : Result Step StoreFault)
    → before ≡ old → more ≡ names → now ≡ hands → told_so ≡ answer → IsStepOf told before (store_of new names hands) n answer → IsStepOf told old (store_of new more now) n told_so
step_as told old before new names more hands now n answer told_so a b c d step =
    subst (λ (s : StoreState _). IsStepOf told s (store_of new more now) n told_so) a
    (subst (λ (l : List (List ℕ)). IsStepOf told before (store_of new l now) n told_so) (sym b)
    (subst (λ (l : List (Option Hand)). IsStepOf told before (store_of new names l) n told_so) (sym c)
    (subst (λ (r : Result Step StoreFault). IsStepOf told before (store_of new names hands) n r) (sym d) step)))
