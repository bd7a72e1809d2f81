-- a vacuum's cleaning that waits for what another session holds, or whose step the pages refuse
use Rattle.std.proofs.Common.{◌≡◌, ◌≢◌, ◌⊎◌, inl, inr, ℕ, ◌<◌, ◌≤◌, List, length, Option, Some, refl, sym, ap, subst, ◌∙◌, arith}
use Rattle.std.specs.Prelude.{slice_get}
use Rattle.disk_trait.specs.Told.{Told}
use Rattle.block_model.specs.declared.place.Place.{Place as PagePlace}
use Rattle.block_model.specs.declared.reply.Refusal.TheVariants as refusals
use Rattle.block_model.specs.declared.reply.What.{What}
use Rattle.block_model.specs.declared.reply.What.TheVariants as whats
use Rattle.block_model.specs.declared.request.Entry.{Entry}
use Rattle.store_layout.specs.DiskLayout.{DiskLayout}
use Rattle.page_map.specs.declared.faults.StoreError.{StoreError}
use Rattle.page_map.specs.Keeps.{Keeps, Tells, Untold}
use Rattle.page_map.specs.Outcome.{Refused}
use Rattle.page_map.specs.PageMap.{View}
use Rattle.page_locks.specs.declared.did.Did.TheVariants as did
use Rattle.page_locks.specs.declared.held.Held.{Held}
use Rattle.page_locks.specs.LockChanges.{page_of}
use Rattle.page_locks.specs.LockCounts.{locks_of}
use Rattle.page_locks.specs.LockHolders.{LockState, holder}
use Rattle.page_locks.specs.RightHolders.{right_of}
use Rattle.store_layout.specs.declared.limits.TheConstants.{MAX_ENTRIES}
use Rattle.store_layout.specs.declared.statement.Statement.TheVariants as statements
use Rattle.index_contents.specs.IndexContents.{relation_of as index_relation}
use Rattle.index_steps.specs.ShownTable.{indexes_of, shown_at}
use Rattle.coverage.specs.TablePoints.{IsHeldBy, PageLock, SummariseLock, WaitedFor, waits_for}
use Rattle.coverage.specs.TableSteps.{IsBlocked}
use Rattle.vacuum_core.specs.declared.standing.Standing.{Standing}
use Rattle.vacuum_core.specs.declared.standing.Standing.TheVariants as standings
use Rattle.vacuum_core.specs.TableSteps.{task_of, waits_at}
use Rattle.vacuum_core.specs.Vacuums.{BlockedAt, DoesOver, IsSweeping, IsVacuumOf, LeavesTheRest, RightAnswers, StandsWell, VacuumState, index_of, step_of}
use Rattle.script_semantics.specs.Names.{index_name, name_of, table_name}
use Rattle.script_semantics.specs.Place.{Place, new_hand}
use Rattle.script_semantics.specs.StatementSteps.{Steps, StepsTo, Waits, what_of}
use Rattle.session_parts.specs.declared.hand.Cleaning.{Cleaning}
use Rattle.session_parts.specs.declared.hand.Hand.{Hand}
use Rattle.session_parts.specs.declared.hand.Hand.TheVariants as hands
use Rattle.session_parts.specs.declared.hand.Stepped.TheVariants as stepped
use Rattle.session_parts.specs.declared.parts.Parts.{Parts}
use Rattle.session_parts.specs.ShowsPlace.{IsPlaceOf}
use Rattle.session_parts.specs.DamagedPages.{NamesAPage}
use Rattle.session_parts.specs.StepAnswers.{StaysReady}
use Rattle.session_parts.specs.Stepping.{IsFit}
use Rattle.session_parts.specs.StoreFaults.{fault_of}
use Rattle.session_parts.specs.StoreStates.{ShownStore, hand_in, shown_of, store_of, with_hand}
use Rattle.session_parts.specs.UndoneLaws.{StepsSo}
use Rattle.session_parts.proofs.HeldLocks.{holder_has_lock}
use Rattle.session_parts.proofs.Steps.{turn_waits}
use Rattle.session_parts.proofs.Undone.{refused_is_undone, same_hands}
use Rattle.session_maintenance.proofs.SummariseLocks.{same_stays}
use Rattle.session_maintenance.proofs.CleaningAt.{at_task, hand_is, here, kept_here, u, w}
use Rattle.session_maintenance.proofs.CleaningParts.{MachineLeft, StepsInTable, fits, fits_then, leaves_others, of, over, stays_fit, with_these}
use Rattle.session_maintenance.proofs.CleaningRights.{IsBegun, IsIndexOf, its_index, right_same}

-- ---- in a place that the store shows

module _ (old : ShownStore) (n : ℕ) (c : Cleaning) (had : hand_in old.hands n ≡ Some (hands.Cleans c)) (below : c.vacuum.table < length old.layout.schema.tables) (p : Place) (shown : IsPlaceOf old p) (few : length old.entries ≤ MAX_ENTRIES) where
  abbrev Blocks : WaitedFor → Type 0
  Blocks waited = (blocked : IsBlocked (w old n c had below p shown) n (task_of c.vacuum)) × (waits_for (w old n c had below p shown) n (task_of c.vacuum) blocked ≡ waited)

  is_waiting : (waited : WaitedFor) (by : ℕ) → Blocks waited → IsHeldBy (w old n c had below p shown) waited by
      → Steps p n (Waits (refusals.Blocked (what_of old.layout c.vacuum.table waited) (name_of p by))) p
  is_waiting waited by blocked held = record {
    hand = new_hand (statements.Vacuum c.vacuum.table);
    in_hand = hand_is old n c had below p shown;
    steps = subst (λ (l : DiskLayout). StepsTo p n (new_hand (statements.Vacuum c.vacuum.table)) (Waits (refusals.Blocked (what_of l c.vacuum.table waited) (name_of p by))) p) shown.layout
        (turn_waits p n c.vacuum.table (new_hand (statements.Vacuum c.vacuum.table)) (w old n c had below p shown) (task_of c.vacuum) waited by (here old n c had below p shown).shown refl
        (at_task old n c had below p shown) (inr refl) blocked.0 blocked.1 held);
    fits = subst (λ (l : List Entry). length l ≤ MAX_ENTRIES) (sym shown.journal) few;
  }

  -- for a page of its index at that place
  pub waits_for_page : (at index : ℕ) (held : PagePlace) (by : ℕ) → IsIndexOf old.layout c.vacuum.table at index → Blocks (PageLock at held.block) → holder old.locks (page_of (index_relation old.layout index) held.block) ≡ Some by
      → Steps p n (Waits (refusals.Blocked (what_of old.layout c.vacuum.table (PageLock at held.block)) (name_of p by))) p
  waits_for_page at index held by is blocked holds = is_waiting (PageLock at held.block) by blocked
      (ap (λ (o : Option ℕ). (shown_at old.layout old.pages old.locks o).lock held.block) is.there ∙ holds)

  -- for the summarise lock of its table
  pub waits_for_lock : (by : ℕ) → Blocks SummariseLock → right_of old.rights c.vacuum.table ≡ Some by
      → Steps p n (Waits (refusals.Blocked (what_of old.layout c.vacuum.table SummariseLock) (name_of p by))) p
  waits_for_lock by blocked holds = is_waiting SummariseLock by blocked ((here old n c had below p shown).lock ∙ holds)

-- ---- the page that it waits for

sweeps_there : (standing : Standing) → IsSweeping standing → (at : ℕ) × (block : ℕ) × (standing ≡ standings.Sweeps at block)
sweeps_there standings.Begins sweeps = absurd sweeps
sweeps_there (standings.Prunes block) sweeps = absurd sweeps
sweeps_there (standings.Sweeps at block) sweeps = (at, block, refl)
sweeps_there standings.Done sweeps = absurd sweeps

-- it is one of an index of the layout
pub held_index : {D : Type 0} (told : D → Told) (a : VacuumState) (n : ℕ) (old new : View D) (locks : LockState) (held : Held) → IsVacuumOf old.layout a → IsSweeping a.standing
    → BlockedAt told a n old new locks a.standing (did.Blocked held) → (index : ℕ) × (index < length old.layout.schema.indexes) × (held.page.relation ≡ index_relation old.layout index)
held_index told a n old new locks held of sweeps blocked =
    let it = sweeps_there a.standing sweeps in
    let well = subst (StandsWell old.layout a) it.2 of.stands in
    let so = subst (λ (q : Standing). BlockedAt told a n old new locks q (did.Blocked held)) it.2 blocked in
    (index_of a it.0, (its_index old.layout a it.0 of.indexes well.0).below, ap (λ (page : PagePlace). page.relation) so.0)

-- by its relation an index is known
pub one_index : (layout other : DiskLayout) (index number relation : ℕ) → other ≡ layout → relation ≡ index_relation layout index → index_relation other number ≡ relation → number ≡ index
one_index layout other index number relation same is there =
    let both : index_relation layout number ≡ index_relation layout index = ap (λ (l : DiskLayout). index_relation l number) (sym same) ∙ there ∙ is in
    omega (arith, both)

-- ---- over the parts of a store

module _ {D : Type 0} (told : D → Told) (parts : Parts D) (n : ℕ) (c : Cleaning) (fit : IsFit told parts n (hands.Cleans c)) (pages : View D) (b : VacuumState) (left : MachineLeft told parts n c fit pages b) (same : b ≡ c.vacuum) where
  abbrev was : Hand
  was = hands.Cleans c

  abbrev next : Cleaning
  next = record { vacuum = b; summaries = c.summaries }

  -- the statement in hand is the same one
  pub same_hand : hands.Cleans next ≡ hands.Cleans c
  same_hand = λ i. hands.Cleans (record { vacuum = same i; summaries = c.summaries })

  -- it waits, and nothing has changed
  module _ (righted : List (Option ℕ)) (same_rights : righted ≡ parts.rights) (keeps : Keeps told parts.pages pages) (ready : StaysReady parts.pages pages) where
    waits_so : (what : What) (by : ℕ) → (by ≢ n) × ((1 ≤ locks_of parts.locks by) ⊎ ((t : ℕ) × (right_of parts.rights t ≡ Some by)))
        → ((names : List (List ℕ)) (hand_list : List (Option Hand)) (has : hand_in hand_list n ≡ Some was) → Tells told parts.pages → (p : Place) → IsPlaceOf (shown_of (store_of parts names hand_list)) p
        → Steps p n (Waits (refusals.Blocked what (name_of p by))) p)
        → StepsSo told parts (with_these parts pages righted) n was (stepped.Blocked what by was)
    waits_so what by holder_is waiting =
        let stays = same_stays c.vacuum.table n parts.rights righted same_rights in
        record {
          steps = λ names hand_list has tells first then p shown. (
            p,
            subst (λ (s : ShownStore). IsPlaceOf s p) (sym (same_store names hand_list has tells)) shown,
            waiting names hand_list has tells p shown,
          );
          fit = stays_fit told parts n c fit pages b left righted stays (stepped.Blocked what by was) (fits_then told parts n c fit pages b left righted stays (Some was) (fits told parts n c fit).in_hand refl
              (λ t holds. (fits told parts n c fit).held t (ap (λ (r : List (Option ℕ)). right_of r t) (sym same_rights) ∙ holds)));
          others = leaves_others told parts n c fit pages b left righted stays (stepped.Blocked what by was) refl;
          stays = λ names hand_list has. (record { pages = keeps; transactions = refl; locks = refl; rights = same_rights; journal = refl; queue = refl; dropped = refl }, refl, holder_is);
          cause = ready;
        }
      where
        same_store : (names : List (List ℕ)) (hand_list : List (Option Hand)) (has : hand_in hand_list n ≡ Some was) → Tells told parts.pages
            → shown_of (store_of (with_these parts pages righted) names (with_hand hand_list n (Some was))) ≡ shown_of (store_of parts names hand_list)
        same_store names hand_list has tells = λ i. record {
          layout = keeps.leaves.layout i;
          pages = keeps.pages tells i;
          transactions = parts.transactions;
          locks = parts.locks;
          rights = same_rights i;
          entries = parts.journal.entries;
          queue = parts.queue;
          dropped = parts.dropped;
          names = names;
          hands = same_hands hand_list n was has i;
        }

    pub waits : (what : What) (by : ℕ) → (by ≢ n) × ((1 ≤ locks_of parts.locks by) ⊎ ((t : ℕ) × (right_of parts.rights t ≡ Some by)))
        → ((names : List (List ℕ)) (hand_list : List (Option Hand)) (has : hand_in hand_list n ≡ Some was) → Tells told parts.pages → (p : Place) → IsPlaceOf (shown_of (store_of parts names hand_list)) p
        → Steps p n (Waits (refusals.Blocked what (name_of p by))) p)
        → StepsSo told parts (with_these parts pages righted) n was (stepped.Blocked what by (hands.Cleans next))
    waits what by holder_is waiting = subst (λ (h : Hand). StepsSo told parts (with_these parts pages righted) n was (stepped.Blocked what by h)) (sym same_hand) (waits_so what by holder_is waiting)

  -- ---- for what it waits

  module _ (law : StepsInTable) (righted : List (Option ℕ)) where
    -- for a page
    pub waits_there : (at block : ℕ) (held : Held) → c.vacuum.standing ≡ standings.Sweeps at block → DoesOver told parts.pages pages parts.locks parts.rights righted n c.vacuum b (did.Blocked held)
        → BlockedAt told c.vacuum n parts.pages pages parts.locks c.vacuum.standing (did.Blocked held) → RightAnswers c.vacuum.table n parts.rights righted c.vacuum.standing (did.Blocked held) → StaysReady parts.pages pages
        → (what : What) → ((table place : ℕ) → slice_get (indexes_of parts.pages.layout table) place ≡ Some (index_of c.vacuum at) → what ≡ whats.Page (index_name parts.pages.layout table place) held.page.block)
        → StepsSo told parts (with_these parts pages righted) n was (stepped.Blocked what held.by (hands.Cleans next))
    waits_there at block held is does blocked right ready what named =
        let so = subst (λ (q : Standing). BlockedAt told c.vacuum n parts.pages pages parts.locks q (did.Blocked held)) is blocked in
        let well = subst (StandsWell parts.pages.layout c.vacuum) is (of told parts n c fit).stands in
        let index = its_index parts.pages.layout c.vacuum at (of told parts n c fit).indexes well.0 in
        let holds : holder parts.locks held.page ≡ Some held.by = ap (λ (page : PagePlace). holder parts.locks page) so.0 ∙ so.1.0 in
        waits righted (right_same c.vacuum.table n parts.rights righted c.vacuum.standing (did.Blocked held) (subst IsBegun (sym is) tt) right) so.2 ready what held.by
        (so.1.1, inl (holder_has_lock parts.locks held.page held.by holds)) (λ names hand_list has tells p shown.
        let old : ShownStore = shown_of (store_of parts names hand_list) in
        let below = (of told parts n c fit).table in
        let it = does tells (here old n c has below p shown).blocks (here old n c has below p shown).has in
        let came = law (step_of parts.pages.layout parts.pages.pages pages.pages parts.locks parts.rights righted n (here old n c has below p shown).blocks it.0) c.vacuum b (did.Blocked held) (of told parts n c fit) it.2 in
        let waits_here = came.0 (u old n c has below p shown) (at_task old n c has below p shown) (here old n c has below p shown).lock (kept_here old n c has below p shown) in
        subst (λ (x : What). Steps p n (Waits (refusals.Blocked x (name_of p held.by))) p) (sym (named c.vacuum.table at index.there))
        (waits_for_page old n c has below p shown (fits told parts n c fit).entries at (index_of c.vacuum at) held.page held.by index
        (subst (λ (q : Standing). (blocked : IsBlocked (w old n c has below p shown) n (task_of c.vacuum)) × (waits_for (w old n c has below p shown) n (task_of c.vacuum) blocked ≡ waits_at q held.page.block)) is waits_here)
        (ap (λ (b : ℕ). holder parts.locks (page_of (index_relation parts.pages.layout (index_of c.vacuum at)) b)) (ap (λ (page : PagePlace). page.block) so.0) ∙ so.1.0)))

    -- by what the layout tells of the page
    pub waits_held : (held : Held) → IsSweeping c.vacuum.standing → DoesOver told parts.pages pages parts.locks parts.rights righted n c.vacuum b (did.Blocked held)
        → BlockedAt told c.vacuum n parts.pages pages parts.locks c.vacuum.standing (did.Blocked held) → RightAnswers c.vacuum.table n parts.rights righted c.vacuum.standing (did.Blocked held) → StaysReady parts.pages pages
        → (what : What) (number : ℕ) (layout other : DiskLayout) → layout ≡ parts.pages.layout → other ≡ parts.pages.layout → index_relation layout number ≡ held.page.relation
        → ((table place : ℕ) → slice_get (indexes_of other table) place ≡ Some number → what ≡ whats.Page (index_name other table place) held.page.block)
        → StepsSo told parts (with_these parts pages righted) n was (stepped.Blocked what held.by (hands.Cleans next))
    waits_held held sweeps does blocked right ready what number layout other same same_other relation named =
        let it = sweeps_there c.vacuum.standing sweeps in
        let so = subst (λ (q : Standing). BlockedAt told c.vacuum n parts.pages pages parts.locks q (did.Blocked held)) it.2 blocked in
        let is : number ≡ index_of c.vacuum it.0 = one_index parts.pages.layout layout (index_of c.vacuum it.0) number held.page.relation same (ap (λ (page : PagePlace). page.relation) so.0) relation in
        waits_there it.0 it.1 held it.2 does blocked right ready what
        (subst (λ (i : ℕ). (table place : ℕ) → slice_get (indexes_of parts.pages.layout table) place ≡ Some i → what ≡ whats.Page (index_name parts.pages.layout table place) held.page.block) is
        (subst (λ (l : DiskLayout). (table place : ℕ) → slice_get (indexes_of l table) place ≡ Some number → what ≡ whats.Page (index_name l table place) held.page.block) same_other named))

    -- another session has the summarise lock of its table
    pub lacks_right : (by : ℕ) → c.vacuum.standing ≡ standings.Begins → DoesOver told parts.pages pages parts.locks parts.rights righted n c.vacuum b (did.NoRight by)
        → RightAnswers c.vacuum.table n parts.rights righted c.vacuum.standing (did.NoRight by) → StaysReady parts.pages pages → (what : What) → what ≡ whats.Work (table_name parts.pages.layout c.vacuum.table)
        → StepsSo told parts (with_these parts pages righted) n was (stepped.Blocked what by (hands.Cleans next))
    lacks_right by is does right ready what named =
        let so = subst (λ (q : Standing). RightAnswers c.vacuum.table n parts.rights righted q (did.NoRight by)) is right in
        let keeps = subst (λ (q : Standing). LeavesTheRest told c.vacuum q parts.pages pages) is left.others in
        waits righted so.2 keeps ready what by (so.1, inr (c.vacuum.table, so.0)) (λ names hand_list has tells p shown.
        let old : ShownStore = shown_of (store_of parts names hand_list) in
        let below = (of told parts n c fit).table in
        let it = does tells (here old n c has below p shown).blocks (here old n c has below p shown).has in
        let came = law (step_of parts.pages.layout parts.pages.pages pages.pages parts.locks parts.rights righted n (here old n c has below p shown).blocks it.0) c.vacuum b (did.NoRight by) (of told parts n c fit) it.2 in
        subst (λ (x : What). Steps p n (Waits (refusals.Blocked x (name_of p by))) p) (sym named)
        (waits_for_lock old n c has below p shown (fits told parts n c fit).entries by
        (came.0 (u old n c has below p shown) (at_task old n c has below p shown) (here old n c has below p shown).lock (kept_here old n c has below p shown)) so.0))

  -- the pages refuse it
  pub refused : (righted : List (Option ℕ)) → righted ≡ parts.rights → (error : StoreError) → Refused told (Untold told parts.pages) parts.pages pages error → NamesAPage parts.pages.layout error
      → StepsSo told parts (with_these parts pages righted) n was (stepped.Undone (fault_of error) (hands.Cleans next))
  refused righted same_rights error refusal names =
      subst (λ (h : Hand). StepsSo told parts (with_these parts pages righted) n was (stepped.Undone (fault_of error) h)) (sym same_hand)
      (refused_is_undone told parts (with_these parts pages righted) n was error fit (over told parts n c fit pages b left) left.leaves
      (record { transactions = refl; locks = refl; rights = same_rights; journal = refl; queue = refl; dropped = refl }) refusal names)
