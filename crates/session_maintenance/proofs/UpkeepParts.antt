-- a step of a maintenance statement, over the parts of a store
use Rattle.std.proofs.Common.{◌≡◌, ◌≢◌, ◌⊎◌, inl, inr, ⊎_elim, ℕ, ◌+◌, ◌≤◌, List, [], length, Option, None, Some, refl, sym, ap, subst, ◌∙◌, arith}
use Rattle.std.proofs.lemmas.Bool.{cases_eq}
use Rattle.disk_trait.specs.Told.{Told}
use Rattle.block_model.specs.declared.reply.Point.{Point}
use Rattle.block_model.specs.declared.reply.Refusal.TheVariants as refusals
use Rattle.block_model.specs.declared.reply.Reply.{Reply}
use Rattle.block_model.specs.declared.reply.What.{What}
use Rattle.store_layout.specs.DiskLayout.{DiskLayout}
use Rattle.page_map.specs.declared.faults.StoreError.{StoreError}
use Rattle.page_map.specs.declared.faults.StoreError.TheVariants as errors
use Rattle.page_map.specs.Keeps.{Keeps, Leaves, Tells, Untold}
use Rattle.page_map.specs.Outcome.{Refused}
use Rattle.page_map.specs.PageMap.{PageMap, View, page_at}
use Rattle.page_locks.specs.LockChanges.{GivesAll}
use Rattle.page_locks.specs.LockCounts.{locks_of}
use Rattle.page_locks.specs.LockHolders.{LockState, holder}
use Rattle.page_locks.specs.RightHolders.{right_of}
use Rattle.recovery.specs.PageOrder.{IsIndexInOrder}
use Rattle.snapshot_core.specs.StoredVersions.{transaction_of}
use Rattle.tx_table.specs.Kept.{over_kept}
use Rattle.tx_table.specs.Statuses.{status_relation}
use Rattle.tx_table.specs.TxState.{IsOver}
use Rattle.transactions.specs.Laws.{ShowAlike}
use Rattle.index_contents.specs.IndexChanges.{LeavesOthers as LeavesOtherIndexes}
use Rattle.index_contents.specs.IndexContents.{index_page, relation_of as index_relation}
use Rattle.index_contents.specs.KeepsOrder.{KeepsOrder}
use Rattle.index_steps.specs.IndexTuples.{index_at}
use Rattle.index_steps.specs.SwapAnswers.{LeavesLocks}
use Rattle.coverage.specs.Accounts.{Account}
use Rattle.coverage.specs.Table.{Resting, Task}
use Rattle.script_semantics.specs.Names.{name_of}
use Rattle.script_semantics.specs.Place.{Place}
use Rattle.script_semantics.specs.StatementSteps.{Ended, Steps, Waits, reply_after}
use Rattle.session_parts.specs.declared.hand.Hand.{Hand}
use Rattle.session_parts.specs.declared.hand.Stepped.{Stepped}
use Rattle.session_parts.specs.declared.hand.Stepped.TheVariants as stepped
use Rattle.session_parts.specs.declared.parts.Parts.{Parts}
use Rattle.session_parts.specs.DamagedPages.{NamesAPage}
use Rattle.session_parts.specs.Hands.{statement_of}
use Rattle.session_parts.specs.HandFits.{FitsHand, IsHandFor, locks_held, right_held}
use Rattle.session_parts.specs.Leaving.{ChangesLocks, GivesLocks, LocksIn}
use Rattle.session_parts.specs.Shares.{hand_share, share_of}
use Rattle.session_parts.specs.ShowsPlace.{IsPlaceOf}
use Rattle.session_parts.specs.StepAnswers.{HasFaultCause, StaysReady, StaysWhereUndone}
use Rattle.session_parts.specs.StepIs.{hand_after}
use Rattle.session_parts.specs.Stepping.{IsFit, LeavesTheOthers, StaysFit}
use Rattle.session_parts.specs.StoreFaults.{fault_of}
use Rattle.session_parts.specs.StoreStates.{ShownStore, StoreState, hand_in, shown_of, store_of, with_hand}
use Rattle.session_parts.specs.UndoneLaws.{FitsParts, StepsSo}
use Rattle.session_parts.proofs.Stores.{hand_changes}
use Rattle.session_parts.proofs.Undone.{fit_of_parts, fit_of_stores}
use Rattle.std.proofs.lemmas.Option.{none-some}
use Rattle.session_maintenance.proofs.UpkeepAt.{IsUpkeep, UpkeepLeft, table}
use Rattle.session_maintenance.proofs.UpkeepStays.{stays_shown}
use Rattle.session_maintenance.proofs.UpkeepSteps.{MadeIn, goes_on, is_done}

-- what a step left of the parts: pages of its index alone changed, and of the locks its session's own, and of the summarise locks that of its table
pub record PartsLeft {D : Type 0} (told : D → Told) (parts : Parts D) (pages : View D) (locks : LockState) (rights : List (Option ℕ)) (n index : ℕ) : Type 0 where
  pub others : LeavesOtherIndexes told index parts.pages pages
  pub order : KeepsOrder told index parts.pages pages
  pub limit : locks.limit ≡ parts.locks.limit
  pub counts : (m : ℕ) → m ≢ n → locks_of locks m ≡ locks_of parts.locks m
  pub tables : length rights ≡ length parts.rights
  pub apart : (other : ℕ) → other ≢ (index_at parts.pages.layout index).table → right_of rights other ≡ right_of parts.rights other
  pub theirs : (m other : ℕ) → m ≢ n → right_of rights other ≡ Some m → right_of parts.rights other ≡ Some m

-- its session's locks changed in its index, or it gave them
abbrev pub LocksLeft : DiskLayout → (old new : LockState) → (n index : ℕ) → Type 0
LocksLeft layout old new n index = LeavesLocks (holder old) (holder new) (index_relation layout index) n ⊎ GivesAll (holder old) (holder new) n

abbrev pub with_these : {D : Type 0} → Parts D → View D → LockState → List (Option ℕ) → Parts D
with_these parts pages locks rights = record parts { pages = pages; locks = locks; rights = rights }

-- and with these requests for summaries
abbrev pub with_queue : {D : Type 0} → Parts D → View D → LockState → List (Option ℕ) → List (ℕ × ℕ) → Parts D
with_queue parts pages locks rights queue = record parts { pages = pages; locks = locks; rights = rights; queue = queue }

-- ---- a fault that comes from pages

pub leaves_same : {D : Type 0} (told : D → Told) (store : View D) → Leaves told store store
leaves_same told store = record { layout = refl; tells = refl; faults = omega arith }

pub never_shown : {D : Type 0} (told : D → Told) (old new : View D) (error : StoreError) → Refused told (Untold told old) old new error → Tells told old → old.failed ≡ None → new.failed ≡ None → ⊥
never_shown told old now errors.Disk refused tells ready after = none-some _ (sym after ∙ refused.2)
never_shown told old now (errors.Reopen faults) refused tells ready after = none-some _ (sym ready ∙ refused.0)
never_shown told old now (errors.Damaged at) refused tells ready after = refused.3 tells

pub has_cause : {D : Type 0} (told : D → Told) (old new : View D) (error : StoreError) → Refused told (Untold told old) old new error → NamesAPage old.layout error → HasFaultCause told old new (fault_of error)
has_cause told old now errors.Disk refused names = refused
has_cause told old now (errors.Reopen faults) refused names = refused
has_cause told old now (errors.Damaged at) refused names = (refused, names)

pub enters_none : {D : Type 0} (told : D → Told) (old new : StoreState D) (n : ℕ) (was hand : Hand) (error : StoreError) → new.journal.entries ≡ old.journal.entries → statement_of hand ≡ statement_of was
    → StaysWhereUndone told old new n was (stepped.Undone (fault_of error) hand)
enters_none told old now n was hand errors.Disk same statement = (same, statement)
enters_none told old now n was hand (errors.Reopen faults) same statement = (same, statement)
enters_none told old now n was hand (errors.Damaged at) same statement = (same, statement)

-- damage is found only where the disk doesn't tell its contents
pub refused_untold : {D : Type 0} (told : D → Told) (Cause : Type 0) (old new : View D) (error : StoreError) → (old.failed ≡ None → Cause → Untold told old) → Refused told Cause old new error → Refused told (Untold told old) old new error
refused_untold told Cause old now errors.Disk untold refused = refused
refused_untold told Cause old now (errors.Reopen faults) untold refused = refused
refused_untold told Cause old now (errors.Damaged at) untold refused = (refused.0, refused.1, refused.2, untold refused.0 refused.3)

module _ {D : Type 0} (told : D → Told) (parts : Parts D) (pages : View D) (locks : LockState) (rights : List (Option ℕ)) (queue : List (ℕ × ℕ)) (n : ℕ) (was : Hand) (index : ℕ) (Here : Task → Type 0) (account : Account)
    (fit : IsFit told parts n was) (is : IsUpkeep parts.pages.layout was index Here account) (left : PartsLeft told parts pages locks rights n index) where
  abbrev pub new : Parts D
  new = with_queue parts pages locks rights queue

  pub fits : FitsParts told parts n (Some was)
  fits = fit_of_parts told parts n was fit

  pub over : IsOver told parts.transactions.tx pages
  over = over_kept told parts.transactions.tx parts.pages pages fits.over left.others.leaves
      (λ tells block. left.others.pages tells (record { relation = status_relation; block = block }) (λ (same : status_relation ≡ index_relation parts.pages.layout index). absurd (omega (arith, same))))

  fits_then : (h : Option Hand) → FitsHand parts.pages.layout (transaction_of parts.transactions.opens n) h → locks_of locks n ≤ locks_held h → hand_share h ≡ hand_share (Some was)
      → ((t : ℕ) → right_of rights t ≡ Some n → right_held parts.pages.layout h ≡ Some t) → FitsParts told new n h
  fits_then h in_hand own share held = record {
    session = fits.session;
    over = over;
    in_hand = subst (λ (l : DiskLayout). FitsHand l (transaction_of parts.transactions.opens n) h) (sym left.others.leaves.layout) in_hand;
    limit = left.limit ∙ fits.limit;
    own = own;
    held = λ t holds. ap (λ (l : DiskLayout). right_held l h) left.others.leaves.layout ∙ held t holds;
    rights = left.tables ∙ fits.rights ∙ ap (λ (l : DiskLayout). length l.schema.tables) (sym left.others.leaves.layout);
    entries = fits.entries;
    share = let more = fits.share in omega (arith, more, share);
  }

  -- its session holds no summarise lock of another table
  apart_free : (t : ℕ) → t ≢ (index_at parts.pages.layout index).table → right_of rights t ≡ Some n → ⊥
  apart_free t away holds = away (is.right t (fits.held t (sym (left.apart t away) ∙ holds)))

  -- and of its own only what it has in hand
  held_by : (h : Option Hand) → right_held parts.pages.layout h ≡ Some (index_at parts.pages.layout index).table → (t : ℕ) → right_of rights t ≡ Some n → right_held parts.pages.layout h ≡ Some t
  held_by h has t holds = elim (cases_eq t (index_at parts.pages.layout index).table) [
    | inl same ↦ has ∙ ap Some (sym same)
    | inr away ↦ absurd (apart_free t away holds)
  ]

  held_none : right_of rights (index_at parts.pages.layout index).table ≢ Some n → (t : ℕ) → right_of rights t ≡ Some n → right_held parts.pages.layout None ≡ Some t
  held_none lacks t holds = elim (cases_eq t (index_at parts.pages.layout index).table) [
    | inl same ↦ absurd (lacks (ap (λ (x : ℕ). right_of rights x) (sym same) ∙ holds))
    | inr away ↦ absurd (apart_free t away holds)
  ]

  held_same : (h : Option Hand) → right_held parts.pages.layout h ≡ right_held parts.pages.layout (Some was) → rights ≡ parts.rights → (t : ℕ) → right_of rights t ≡ Some n → right_held parts.pages.layout h ≡ Some t
  held_same h same same_rights t holds = same ∙ fits.held t (ap (λ (r : List (Option ℕ)). right_of r t) (sym same_rights) ∙ holds)

  stays_fit : (answer : Stepped) → FitsParts told new n (hand_after answer) → StaysFit told parts new n was answer
  stays_fit answer fits_so names hand_list has = fit_of_stores told new n (hand_after answer) names (with_hand hand_list n (hand_after answer)) fits_so (hand_changes hand_list n was (hand_after answer) has).own

  leaves_others : (answer : Stepped) → hand_share (hand_after answer) ≡ hand_share (Some was) → LeavesTheOthers told parts new n was answer
  leaves_others answer share names hand_list has = record {
    leaves = left.others.leaves;
    transactions = λ m apart. refl;
    locks = λ m apart. left.counts m apart;
    rights = λ m other apart holds. left.theirs m other apart holds;
    dropped = λ m apart. refl;
    promised = ap (λ (h : Option Hand). parts.journal.promised + share_of h (transaction_of parts.transactions.opens n)) has
        ∙ ap (λ (s : ℕ). parts.journal.promised + s) same
        ∙ ap (λ (h : Option Hand). parts.journal.promised + share_of h (transaction_of parts.transactions.opens n)) (sym (hand_changes hand_list n was (hand_after answer) has).own);
  }
    where
      same : share_of (Some was) (transaction_of parts.transactions.opens n) ≡ share_of (hand_after answer) (transaction_of parts.transactions.opens n)
      same = omega (arith, share)

  module _ (names : List (List ℕ)) (hand_list : List (Option Hand)) (has : hand_in hand_list n ≡ Some was) where
    -- the store before the step and behind it
    abbrev pub old_store : ShownStore
    old_store = shown_of (store_of parts names hand_list)

    abbrev pub new_store : Option Hand → ShownStore
    new_store h = shown_of (store_of new names (with_hand hand_list n h))

    locks_so : LocksLeft parts.pages.layout parts.locks locks n index → (h : Option Hand) → ChangesLocks n (index_at parts.pages.layout index).table old_store (new_store h)
    locks_so leaves h = ⊎_elim
        (λ (stay : LeavesLocks (holder parts.locks) (holder locks) (index_relation parts.pages.layout index) n). LocksIn (index_relation parts.pages.layout index) (inr (index, is.within, refl, refl)) stay)
        (λ (gives : GivesAll (holder parts.locks) (holder locks) n). GivesLocks gives) leaves

    page_is : Tells told parts.pages → (i : ℕ) → i ≢ index → index_page parts.pages.layout pages.pages i ≡ index_page parts.pages.layout parts.pages.pages i
    page_is tells i other = λ j block. left.others.pages tells (record { relation = index_relation parts.pages.layout i; block = block })
        (λ (same : index_relation parts.pages.layout i ≡ index_relation parts.pages.layout index). other (omega (arith, same))) j

    order_so : Tells told parts.pages → (i : ℕ) → IsIndexInOrder parts.pages.layout.sizes.index_blocks (index_page parts.pages.layout parts.pages.pages i) → IsIndexInOrder parts.pages.layout.sizes.index_blocks (index_page parts.pages.layout pages.pages i)
    order_so tells i ordered = elim (cases_eq i index) [
      | inl same ↦ subst (λ (m : ℕ). IsIndexInOrder parts.pages.layout.sizes.index_blocks (index_page parts.pages.layout pages.pages m)) (sym same)
          (left.order tells (subst (λ (m : ℕ). IsIndexInOrder parts.pages.layout.sizes.index_blocks (index_page parts.pages.layout parts.pages.pages m)) same ordered))
      | inr other ↦ subst (IsIndexInOrder parts.pages.layout.sizes.index_blocks) (sym (page_is tells i other)) ordered
    ]

    pub left_so : LocksLeft parts.pages.layout parts.locks locks n index → Tells told parts.pages → (h : Option Hand) → UpkeepLeft old_store (new_store h) n was index
    left_so leaves tells h = record {
      had = has;
      others = record {
        layout = left.others.leaves.layout;
        names = refl;
        first = refl;
        hands = (hand_changes hand_list n was h has).others;
        opens = λ m apart. refl;
      };
      pages = left.others.pages tells;
      locks = locks_so leaves h;
      rights = left.apart;
      order = λ i below ordered. order_so tells i ordered;
      transactions = refl;
      entries = refl;
      dropped = refl;
      few = fits.entries;
    }

  -- it goes on
  module _ (next : Hand) (HereNext : Task → Type 0) (next_account : Account) (stays : IsUpkeep parts.pages.layout next index HereNext next_account) (same : statement_of next ≡ statement_of was)
      (in_hand : IsHandFor parts.pages.layout (transaction_of parts.transactions.opens n) next) (own : locks_of locks n ≤ locks_held (Some next)) (share : hand_share (Some next) ≡ hand_share (Some was)) (ready : StaysReady parts.pages pages)
      (right : right_held parts.pages.layout (Some next) ≡ Some (index_at parts.pages.layout index).table) where
    -- its step in each place that is shown
    abbrev pub Goes : Point → Type 0
    Goes point = (names : List (List ℕ)) (hand_list : List (Option Hand)) (has : hand_in hand_list n ≡ Some was) → Tells told parts.pages → (p : Place) (shown : IsPlaceOf (old_store names hand_list has) p)
        → (made : MadeIn (old_store names hand_list has) (new_store names hand_list has (Some next)) n was index Here account is has p shown point)
        × HereNext made.after × (made.after ≢ Resting) × (made.adds account ≡ next_account)

    pub moved_so : ShowAlike → LocksLeft parts.pages.layout parts.locks locks n index → (point : Point) → Goes point → StepsSo told parts new n was (stepped.Moved point next)
    unfolding left_so
    moved_so alike leaves point makes = record {
      steps = λ names hand_list has tells first then p shown.
          let it = makes names hand_list has tells p shown in
          goes_on (old_store names hand_list has) (new_store names hand_list has (Some next)) n was index Here account is (left_so names hand_list has leaves tells (Some next)) p shown alike point it.0
          next HereNext next_account stays same (hand_changes hand_list n was (Some next) has).own it.1 it.2 it.3;
      fit = stays_fit (stepped.Moved point next) (fits_then (Some next) in_hand own share (held_by (Some next) right));
      others = leaves_others (stepped.Moved point next) share;
      stays = λ names hand_list has. same;
      cause = ready;
    }

  -- it replies
  module _ (next_account : Account) (none_asked : next_account.dropped ≡ []) (none : locks_of locks n ≡ 0) (free : hand_share (Some was) ≡ 0) (ready : StaysReady parts.pages pages) (lacks : right_of rights (index_at parts.pages.layout index).table ≢ Some n) where
    abbrev pub Ends : Point → Reply → Type 0
    Ends point reply = (names : List (List ℕ)) (hand_list : List (Option Hand)) (has : hand_in hand_list n ≡ Some was) → Tells told parts.pages → (p : Place) (shown : IsPlaceOf (old_store names hand_list has) p)
        → (made : MadeIn (old_store names hand_list has) (new_store names hand_list has None) n was index Here account is has p shown point)
        × (made.after ≡ Resting) × (made.adds account ≡ next_account)
        × (Some reply ≡ reply_after p.layout (table (old_store names hand_list has) n was index Here account is has p shown) made.between next_account [] (statement_of was))

    pub done_so : ShowAlike → LocksLeft parts.pages.layout parts.locks locks n index → (point : Point) (reply : Reply) → Ends point reply → StepsSo told parts new n was (stepped.Done reply)
    unfolding left_so
    done_so alike leaves point reply makes = record {
      steps = λ names hand_list has tells first then p shown.
          let it = makes names hand_list has tells p shown in
          is_done (old_store names hand_list has) (new_store names hand_list has None) n was index Here account is (left_so names hand_list has leaves tells None) p shown alike point it.0
          (hand_changes hand_list n was None has).own it.1 next_account it.2 none_asked reply it.3;
      fit = stays_fit (stepped.Done reply) (fits_then None tt (omega (arith, none)) (sym free) (held_none lacks));
      others = leaves_others (stepped.Done reply) (sym free);
      stays = λ names hand_list has. tt;
      cause = ready;
    }

  -- it is refused
  module _ (none : locks_of locks n ≡ 0) (free : hand_share (Some was) ≡ 0) (ready : StaysReady parts.pages pages) (leaves : LocksLeft parts.pages.layout parts.locks locks n index)
      (lacks : right_of rights (index_at parts.pages.layout index).table ≢ Some n) where
    abbrev pub IsRefusal : Reply → Type 0
    IsRefusal reply = (names : List (List ℕ)) (hand_list : List (Option Hand)) (has : hand_in hand_list n ≡ Some was) → Tells told parts.pages → (p : Place) (shown : IsPlaceOf (old_store names hand_list has) p)
        → UpkeepLeft (old_store names hand_list has) (new_store names hand_list has None) n was index → hand_in (with_hand hand_list n None) n ≡ None
        → (q : Place) × IsPlaceOf (new_store names hand_list has None) q × Steps p n (Ended reply) q

    pub refused_so : (reply : Reply) → IsRefusal reply → StepsSo told parts new n was (stepped.Done reply)
    refused_so reply makes = record {
      steps = λ names hand_list has tells first then p shown. makes names hand_list has tells p shown (left_so names hand_list has leaves tells None) (hand_changes hand_list n was None has).own;
      fit = stays_fit (stepped.Done reply) (fits_then None tt (omega (arith, none)) (sym free) (held_none lacks));
      others = leaves_others (stepped.Done reply) (sym free);
      stays = λ names hand_list has. tt;
      cause = ready;
    }

  -- nothing changed but the statement, which is at the same task
  module _ (next : Hand) (HereNext : Task → Type 0) (stays : IsUpkeep parts.pages.layout next index HereNext account) (same : statement_of next ≡ statement_of was)
      (in_hand : IsHandFor parts.pages.layout (transaction_of parts.transactions.opens n) next) (own : locks_of locks n ≤ locks_held (Some next)) (share : hand_share (Some next) ≡ hand_share (Some was)) (ready : StaysReady parts.pages pages)
      (right : right_held parts.pages.layout (Some next) ≡ right_held parts.pages.layout (Some was)) where
    abbrev pub IsWaiting : What → ℕ → Type 0
    IsWaiting what by = (names : List (List ℕ)) (hand_list : List (Option Hand)) (has : hand_in hand_list n ≡ Some was) → Tells told parts.pages → (p : Place) (shown : IsPlaceOf (old_store names hand_list has) p)
        → ((task : Task) → Here task → HereNext task) × Steps p n (Waits (refusals.Blocked what (name_of p by))) p

    pub waits_so : ShowAlike → LocksLeft parts.pages.layout parts.locks locks n index → Keeps told parts.pages pages → locks ≡ parts.locks → rights ≡ parts.rights → queue ≡ parts.queue → (what : What) (by : ℕ)
        → (by ≢ n) × ((1 ≤ locks_of parts.locks by) ⊎ ((t : ℕ) × (right_of parts.rights t ≡ Some by))) → IsWaiting what by → StepsSo told parts new n was (stepped.Blocked what by next)
    unfolding left_so
    waits_so alike leaves keeps same_locks same_rights same_queue what by holder_is waits = record {
      steps = λ names hand_list has tells first then p shown. (
        p,
        stays_shown (old_store names hand_list has) (new_store names hand_list has (Some next)) n was next index Here HereNext account is (record {
          left = left_so names hand_list has leaves tells (Some next);
          stays = stays;
          same = same;
          at = (waits names hand_list has tells p shown).0;
          now = (hand_changes hand_list n was (Some next) has).own;
          pages = λ place. ap (λ (m : PageMap). page_at m place) (keeps.pages tells);
          locks = same_locks;
          rights = same_rights;
          queue = same_queue;
        }) p shown alike,
        (waits names hand_list has tells p shown).1,
      );
      fit = stays_fit (stepped.Blocked what by next) (fits_then (Some next) in_hand own share (held_same (Some next) right same_rights));
      others = leaves_others (stepped.Blocked what by next) share;
      stays = λ names hand_list has. (record { pages = keeps; transactions = refl; locks = same_locks; rights = same_rights; journal = refl; queue = same_queue; dropped = refl }, same, holder_is);
      cause = ready;
    }

  -- the pages refuse it
  module _ (next : Hand) (same : statement_of next ≡ statement_of was) (in_hand : IsHandFor parts.pages.layout (transaction_of parts.transactions.opens n) next) (own : locks_of locks n ≤ locks_held (Some next))
      (share : hand_share (Some next) ≡ hand_share (Some was)) (right : right_held parts.pages.layout (Some next) ≡ right_held parts.pages.layout (Some was)) (same_rights : rights ≡ parts.rights) where
    pub undone_so : (error : StoreError) → Refused told (Untold told parts.pages) parts.pages pages error → NamesAPage parts.pages.layout error → StepsSo told parts new n was (stepped.Undone (fault_of error) next)
    undone_so error refused names_page = record {
      steps = λ names hand_list has tells first then p shown. absurd (never_shown told parts.pages pages error refused tells first then);
      fit = stays_fit (stepped.Undone (fault_of error) next) (fits_then (Some next) in_hand own share (held_same (Some next) right same_rights));
      others = leaves_others (stepped.Undone (fault_of error) next) share;
      stays = λ names hand_list has. enters_none told _ _ n was next error refl same;
      cause = has_cause told parts.pages pages error refused names_page;
    }
