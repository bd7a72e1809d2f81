-- Steps that aren't done, and steps behind a call that changes no page.
use Rattle.std.proofs.Common.{◌≡◌, ◌⊎◌, ℕ, ◌+◌, ◌≤◌, ◌<◌, List, length, Option, None, Some, refl, sym, ap, ◌∙◌, subst, arith}
use Rattle.std.proofs.lemmas.List.{set-get_or}
use Rattle.std.proofs.lemmas.Option.{none-some}
use Rattle.block_model.specs.Causes.{rose_earlier}
use Rattle.disk_trait.specs.Told.{Told}
use Rattle.page_locks.specs.LockCounts.{locks_of}
use Rattle.page_locks.specs.LockHolders.{LockState}
use Rattle.page_locks.specs.RightHolders.{right_of}
use Rattle.page_map.specs.declared.faults.StoreError.{StoreError}
use Rattle.page_map.specs.declared.faults.StoreError.TheVariants as errors
use Rattle.page_map.specs.Keeps.{Keeps, Leaves, Tells, Untold, keeps_then, keeps_on}
use Rattle.page_map.specs.Outcome.{Refused}
use Rattle.page_map.specs.PageMap.{View}
use Rattle.reply_texts.specs.declared.dropped.Dropped.{Dropped}
use Rattle.store_layout.specs.declared.limits.TheConstants.{MAX_ENTRIES}
use Rattle.store_layout.specs.declared.statement.Statement.{Statement}
use Rattle.store_layout.specs.DiskLayout.{DiskLayout}
use Rattle.snapshot_core.specs.declared.sessions.Open.{Open}
use Rattle.snapshot_core.specs.StoredVersions.{transaction_of}
use Rattle.transactions.specs.TransactionsState.{TransactionsState}
use Rattle.tx_table.specs.TxState.{IsOver}
use Rattle.script_semantics.specs.Place.{Place}
use Rattle.session_parts.specs.declared.faults.StoreFault.{StoreFault}
use Rattle.session_parts.specs.declared.faults.StoreFault.TheVariants as stops
use Rattle.session_parts.specs.declared.hand.Hand.{Hand}
use Rattle.session_parts.specs.declared.hand.Stepped.{Stepped}
use Rattle.session_parts.specs.declared.hand.Stepped.TheVariants as stepped
use Rattle.session_parts.specs.declared.parts.Parts.{Parts}
use Rattle.session_parts.specs.DamagedPages.{IsPageStart, NamesAPage}
use Rattle.session_parts.specs.HandFits.{FitsHand, FitsStore, locks_held, right_held}
use Rattle.session_parts.specs.Hands.{statement_of}
use Rattle.session_parts.specs.JournalState.{JournalState}
use Rattle.session_parts.specs.Shares.{share_of}
use Rattle.session_parts.specs.ShowsPlace.{IsPlaceOf, ShowsPlace}
use Rattle.session_parts.specs.StepAnswers.{HasCause, IsHolderOf, LeavesSessions, StaysAsItWas, StaysWhereUndone, most_entered}
use Rattle.session_parts.specs.StepIs.{hand_after}
use Rattle.session_parts.specs.Stepping.{IsFit, LeavesTheOthers}
use Rattle.session_parts.specs.StoreFaults.{fault_of}
use Rattle.session_parts.specs.StoreStates.{ShownStore, StoreState, dropped_in, hand_in, shown_of, store_of, with_hand}
use Rattle.session_parts.specs.UndoneLaws.{FitOfParts, FitOfStores, FitsParts, RefusedIsUndone, SameBesidePages, SpentIsUndone, StepsBehind}

-- ---- what is fit

module _ {D : Type 0} (told : D → Told) where
  parts_of_store : (parts : Parts D) (n : ℕ) (names : List (List ℕ)) (hands : List (Option Hand)) → FitsStore told (store_of parts names hands) n → FitsParts told parts n (hand_in hands n)
  parts_of_store parts n names hands fit = record {
    session = fit.session;
    over = fit.over;
    in_hand = fit.hand;
    limit = fit.limit;
    own = fit.own;
    held = fit.held;
    rights = fit.rights;
    entries = fit.entries;
    share = fit.share;
  }

  store_of_parts : (parts : Parts D) (n : ℕ) (names : List (List ℕ)) (hands : List (Option Hand)) → FitsParts told parts n (hand_in hands n) → FitsStore told (store_of parts names hands) n
  store_of_parts parts n names hands fit = record {
    session = fit.session;
    over = fit.over;
    hand = fit.in_hand;
    limit = fit.limit;
    own = fit.own;
    held = fit.held;
    rights = fit.rights;
    entries = fit.entries;
    share = fit.share;
  }

  pub fit_of_parts : FitOfParts told
  fit_of_parts parts n hand fit = subst (FitsParts told parts n) fit.2 (parts_of_store parts n fit.0 fit.1 fit.3)

  pub fit_of_stores : FitOfStores told
  fit_of_stores parts n hand names hands fit is = store_of_parts parts n names hands (subst (FitsParts told parts n) (sym is) fit)

-- ---- the hands, where the session keeps its own

pub same_hands : (hands : List (Option Hand)) (n : ℕ) (hand : Hand) → hand_in hands n ≡ Some hand → with_hand hands n (Some hand) ≡ hands
same_hands hands n hand is = ap (with_hand hands n) (sym is) ∙ set-get_or hands n None

kept_hand : (hands : List (Option Hand)) (n : ℕ) (hand : Hand) → hand_in hands n ≡ Some hand → hand_in (with_hand hands n (Some hand)) n ≡ Some hand
kept_hand hands n hand is = ap (λ (l : List (Option Hand)). hand_in l n) (same_hands hands n hand is) ∙ is

-- ---- refused by the pages

module _ {D : Type 0} (told : D → Told) where
  not_refused : (error : StoreError) (old new : View D) → Refused told (Untold told old) old new error → Tells told old → old.failed ≡ None → new.failed ≡ None → ⊥
  not_refused errors.Disk old new refused tells before after = none-some _ (sym after ∙ refused.2)
  not_refused (errors.Reopen faults) old new refused tells before after = none-some _ (sym before ∙ refused.0)
  not_refused (errors.Damaged at) old new refused tells before after = refused.3 tells

  cause_of : (error : StoreError) (hand : Hand) (old new : View D) → Refused told (Untold told old) old new error → NamesAPage old.layout error → HasCause told old new (stepped.Undone (fault_of error) hand)
  cause_of errors.Disk hand old new refused names = refused
  cause_of (errors.Reopen faults) hand old new refused names = refused
  cause_of (errors.Damaged at) hand old new refused names = (refused, names)

  undone_by : (error : StoreError) (old new : StoreState D) (n : ℕ) (hand : Hand) → new.journal.entries ≡ old.journal.entries → StaysWhereUndone told old new n hand (stepped.Undone (fault_of error) hand)
  undone_by errors.Disk old new n hand same = (same, refl)
  undone_by (errors.Reopen faults) old new n hand same = (same, refl)
  undone_by (errors.Damaged at) old new n hand same = (same, refl)

  module _ (old new : Parts D) (n : ℕ) (hand : Hand) (fits : IsFit told old n hand) (over : IsOver told new.transactions.tx new.pages) (leaves : Leaves told old.pages new.pages) (same : SameBesidePages old new) where
    was : FitsParts told old n (Some hand)
    was = fit_of_parts told old n hand fits

    opens_same : (m : ℕ) → transaction_of new.transactions.opens m ≡ transaction_of old.transactions.opens m
    opens_same m = ap (λ (t : TransactionsState). transaction_of t.opens m) same.transactions

    still : FitsParts told new n (Some hand)
    still = record {
      session = was.session;
      over = over;
      in_hand = subst (λ (layout : DiskLayout). FitsHand layout (transaction_of new.transactions.opens n) (Some hand)) (sym leaves.layout)
          (subst (λ (o : Option Open). FitsHand old.pages.layout o (Some hand)) (sym (opens_same n)) was.in_hand);
      limit = ap (λ (l : LockState). l.limit) same.locks ∙ was.limit;
      own = subst (λ (l : LockState). locks_of l n ≤ locks_held (Some hand)) (sym same.locks) was.own;
      held = λ table holds. ap (λ (layout : DiskLayout). right_held layout (Some hand)) leaves.layout ∙ was.held table (ap (λ (r : List (Option ℕ)). right_of r table) (sym same.rights) ∙ holds);
      rights = ap length same.rights ∙ was.rights ∙ ap (λ (layout : DiskLayout). length layout.schema.tables) (sym leaves.layout);
      entries = subst (λ (j : JournalState). length j.entries ≤ MAX_ENTRIES) (sym same.journal) was.entries;
      share = subst (λ (j : JournalState). share_of (Some hand) (transaction_of new.transactions.opens n) ≤ j.promised) (sym same.journal)
          (subst (λ (o : Option Open). share_of (Some hand) o ≤ old.journal.promised) (sym (opens_same n)) was.share);
    }

    -- it is the same statement of the session still, with the same share
    refused_others : (fault : StoreFault) → LeavesTheOthers told old new n hand (stepped.Undone fault hand)
    refused_others fault names hands is = record {
      leaves = leaves;
      transactions = λ m apart. opens_same m;
      locks = λ m apart. ap (λ (l : LockState). locks_of l m) same.locks;
      dropped = λ m apart. ap (λ (l : List (List Dropped)). dropped_in l m) same.dropped;
      rights = λ m table apart holds. ap (λ (r : List (Option ℕ)). right_of r table) (sym same.rights) ∙ holds;
      promised = λ i. (same.journal i).promised + share_of ((is ∙ sym (kept_hand hands n hand is)) i) (sym (opens_same n) i);
    }

  pub refused_is_undone : RefusedIsUndone told
  refused_is_undone old new n hand error fits over leaves same refused names_page = record {
    steps = λ names hands is tells before after p shown. absurd (not_refused error old.pages new.pages refused tells before after);
    fit = λ names hands is. fit_of_stores told new n (Some hand) names (with_hand hands n (Some hand)) (still old new n hand fits over leaves same) (kept_hand hands n hand is);
    others = refused_others old new n hand fits over leaves same (fault_of error);
    stays = λ names hands is. undone_by error (store_of old names hands) (store_of new names (with_hand hands n (Some hand))) n hand (ap (λ (j : JournalState). j.entries) same.journal);
    cause = cause_of error hand old.pages new.pages refused names_page;
  }

  -- ---- no room

  no_leaves : (view : View D) → Leaves told view view
  no_leaves view = record { layout = refl; tells = refl; faults = omega arith }

  module _ (parts : Parts D) (n : ℕ) (hand : Hand) (fits : IsFit told parts n hand) where
    kept_fit : (names : List (List ℕ)) (hands : List (Option Hand)) → hand_in hands n ≡ Some hand → FitsStore told (store_of parts names (with_hand hands n (Some hand))) n
    kept_fit names hands is = fit_of_stores told parts n (Some hand) names (with_hand hands n (Some hand)) (fit_of_parts told parts n hand fits) (kept_hand hands n hand is)

    kept_others : (fault : StoreFault) → LeavesTheOthers told parts parts n hand (stepped.Undone fault hand)
    kept_others fault = refused_others parts parts n hand fits (fit_of_parts told parts n hand fits).over (no_leaves parts.pages)
        (record { transactions = refl; locks = refl; rights = refl; journal = refl; queue = refl; dropped = refl }) fault

    kept_shown : (names : List (List ℕ)) (hands : List (Option Hand)) (p : Place) → hand_in hands n ≡ Some hand → ShowsPlace (store_of parts names hands) p
        → ShowsPlace (store_of parts names (with_hand hands n (Some hand))) p
    kept_shown names hands p is shown = subst (λ (l : List (Option Hand)). ShowsPlace (store_of parts names l) p) (sym (same_hands hands n hand is)) shown

    as_it_is : (names : List (List ℕ)) (hands now : List (Option Hand)) → StaysAsItWas told (store_of parts names hands) (store_of parts names now)
    as_it_is names hands now =
        record { pages = record { leaves = no_leaves parts.pages; pages = λ tells. refl }; transactions = refl; locks = refl; rights = refl; journal = refl; queue = refl; dropped = refl }

  pub spent_is_undone : SpentIsUndone told
  spent_is_undone parts n hand entries fits ready is_length full lacks = record {
    steps = λ names hands is tells before after p shown. (p, kept_shown parts n hand fits names hands p is shown, (lacks names hands p is tells shown, is_length ∙ ap length (sym shown.journal), refl));
    fit = kept_fit parts n hand fits;
    others = kept_others parts n hand fits (stops.Spent entries);
    stays = λ names hands is. (as_it_is parts n hand fits names hands (with_hand hands n (Some hand)), refl, is_length, full);
    cause = (ready, ready);
  }

  -- ---- behind a call that changes no page

  module _ (old mid : Parts D) (n : ℕ) (keeps : Keeps told old.pages mid.pages) (ready : old.pages.failed ≡ None) (still_ready : mid.pages.failed ≡ None) (same : SameBesidePages old mid) where
    -- what is shown before is shown behind it
    shown_mid : (names : List (List ℕ)) (hands : List (Option Hand)) → Tells told old.pages → shown_of (store_of mid names hands) ≡ shown_of (store_of old names hands)
    shown_mid names hands tells = λ i. record {
      layout = keeps.leaves.layout i;
      pages = keeps.pages tells i;
      transactions = same.transactions i;
      locks = same.locks i;
      rights = same.rights i;
      entries = (same.journal i).entries;
      queue = same.queue i;
      dropped = same.dropped i;
      names = names;
      hands = hands;
    }

    cause_behind : (new : View D) (answer : Stepped) → HasCause told mid.pages new answer → HasCause told old.pages new answer
    cause_behind new (stepped.Moved point hand) cause = (ready, cause.1)
    cause_behind new (stepped.Done reply) cause = (ready, cause.1)
    cause_behind new (stepped.Blocked what holder hand) cause = (ready, cause.1)
    cause_behind new (stepped.Undone (stops.Spent entries) hand) cause = (ready, cause.1)
    cause_behind new (stepped.Undone stops.Disk hand) cause = (ready, rose_earlier (told old.pages.disk).faults (told mid.pages.disk).faults (told new.disk).faults keeps.leaves.faults cause.1, cause.2)
    cause_behind new (stepped.Undone (stops.Reopen faults) hand) cause = absurd (none-some _ (sym still_ready ∙ cause.0))
    cause_behind new (stepped.Undone (stops.Damaged at) hand) cause =
        let refused = cause.0 in ((ready, refused.1, omega (arith, keeps.leaves.faults, refused.2), λ tells. refused.3 (keeps.leaves.tells ∙ tells)), subst (λ (l : DiskLayout). IsPageStart l at) keeps.leaves.layout cause.1)

    as_it_was : (names : List (List ℕ)) (hands : List (Option Hand)) (new : StoreState D) → StaysAsItWas told (store_of mid names hands) new → StaysAsItWas told (store_of old names hands) new
    as_it_was names hands new w = record {
      pages = keeps_on told old.pages mid.pages new.pages keeps w.pages;
      transactions = w.transactions ∙ same.transactions;
      locks = w.locks ∙ same.locks;
      rights = w.rights ∙ same.rights;
      journal = w.journal ∙ ap (λ (j : JournalState). j.entries) same.journal;
      queue = w.queue ∙ same.queue;
      dropped = w.dropped ∙ same.dropped;
    }

    spent_too : (statement : Statement) → MAX_ENTRIES < length mid.journal.entries + most_entered statement → MAX_ENTRIES < length old.journal.entries + most_entered statement
    spent_too statement full = subst (λ (j : JournalState). MAX_ENTRIES < length j.entries + most_entered statement) same.journal full

    stays_behind : (names : List (List ℕ)) (hands : List (Option Hand)) (new : StoreState D) (hand : Hand) (answer : Stepped)
        → StaysWhereUndone told (store_of mid names hands) new n hand answer → StaysWhereUndone told (store_of old names hands) new n hand answer
    stays_behind names hands new hand (stepped.Moved point next) stays = stays
    stays_behind names hands new hand (stepped.Done reply) stays = stays
    stays_behind names hands new hand (stepped.Blocked what holder next) stays = (as_it_was names hands new stays.0, stays.1, holds_too stays.2)
      where
        holds_too : IsHolderOf (store_of mid names hands) n holder → IsHolderOf (store_of old names hands) n holder
        holds_too it = (
          it.0,
          subst (λ (r : List (Option ℕ)). (1 ≤ locks_of old.locks holder) ⊎ ((table : ℕ) × (right_of r table ≡ Some holder))) same.rights
              (subst (λ (l : LockState). (1 ≤ locks_of l holder) ⊎ ((table : ℕ) × (right_of mid.rights table ≡ Some holder))) same.locks it.1),
        )
    stays_behind names hands new hand (stepped.Undone (stops.Spent entries) next) stays =
        (as_it_was names hands new stays.0, stays.1, stays.2 ∙ ap (λ (j : JournalState). length j.entries) same.journal, spent_too (statement_of hand) stays.3)
    stays_behind names hands new hand (stepped.Undone stops.Disk next) stays = (stays.0 ∙ ap (λ (j : JournalState). j.entries) same.journal, stays.1)
    stays_behind names hands new hand (stepped.Undone (stops.Reopen faults) next) stays = (stays.0 ∙ ap (λ (j : JournalState). j.entries) same.journal, stays.1)
    stays_behind names hands new hand (stepped.Undone (stops.Damaged at) next) stays = (stays.0 ∙ ap (λ (j : JournalState). j.entries) same.journal, stays.1)

    -- the session's share in each of the two
    shares_mid : (hands : List (Option Hand)) → share_of (hand_in hands n) (transaction_of mid.transactions.opens n) ≡ share_of (hand_in hands n) (transaction_of old.transactions.opens n)
    shares_mid hands = ap (λ (t : TransactionsState). share_of (hand_in hands n) (transaction_of t.opens n)) same.transactions

    others_behind : (names : List (List ℕ)) (hands : List (Option Hand)) (new : StoreState D) → LeavesSessions told (store_of mid names hands) new n → LeavesSessions told (store_of old names hands) new n
    others_behind names hands new others = record {
      leaves = keeps_then told old.pages mid.pages new.pages keeps others.leaves;
      transactions = λ m apart. others.transactions m apart ∙ ap (λ (t : TransactionsState). transaction_of t.opens m) same.transactions;
      locks = λ m apart. others.locks m apart ∙ ap (λ (l : LockState). locks_of l m) same.locks;
      dropped = λ m apart. others.dropped m apart ∙ ap (λ (l : List (List Dropped)). dropped_in l m) same.dropped;
      rights = λ m table apart holds. ap (λ (r : List (Option ℕ)). right_of r table) (sym same.rights) ∙ others.rights m table apart holds;
      promised = ap (λ share. new.journal.promised + share) (sym (shares_mid hands)) ∙ others.promised ∙ ap (λ (j : JournalState). j.promised + share_of (hand_in new.hands n) (transaction_of new.transactions.opens n)) same.journal;
    }

  pub steps_behind : StepsBehind told
  steps_behind old mid new n hand answer keeps ready still_ready same behind = record {
    steps = λ names hands is tells before after p shown.
        behind.steps names hands is (keeps.leaves.tells ∙ tells) still_ready after p (subst (λ (s : ShownStore). IsPlaceOf s p) (sym (shown_mid old mid n keeps ready still_ready same names hands tells)) shown);
    fit = behind.fit;
    others = λ names hands is. others_behind old mid n keeps ready still_ready same names hands (store_of new names (with_hand hands n (hand_after answer))) (behind.others names hands is);
    stays = λ names hands is. stays_behind old mid n keeps ready still_ready same names hands (store_of new names (with_hand hands n (hand_after answer))) hand answer (behind.stays names hands is);
    cause = cause_behind old mid n keeps ready still_ready same new.pages answer behind.cause;
  }
