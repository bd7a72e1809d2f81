-- a step of an explain, over the parts of a store
use Rattle.std.proofs.Common.{◌≡◌, ◌≢◌, ℕ, ◌+◌, List, length, Option, None, Some, Ok, Err, refl, sym, ap, subst, ◌∙◌, arith}
use Rattle.disk_trait.specs.Told.{Told}
use Rattle.block_model.specs.declared.reply.Point.{Point}
use Rattle.block_model.specs.declared.reply.Point.TheVariants as points
use Rattle.block_model.specs.declared.reply.Reply.TheVariants as replies
use Rattle.page_locks.specs.declared.did.Did.{Did}
use Rattle.page_locks.specs.declared.did.Did.TheVariants as did
use Rattle.page_locks.specs.LockHolders.{LockState}
use Rattle.page_layout.specs.PageContents.{Slot}
use Rattle.page_map.specs.declared.faults.StoreError.{StoreError}
use Rattle.page_map.specs.declared.faults.StoreError.TheVariants as errors
use Rattle.page_map.specs.Keeps.{Keeps, Tells, Untold}
use Rattle.page_map.specs.declared.faults.MachineFault.{MachineFault}
use Rattle.page_map.specs.declared.faults.MachineFault.TheVariants as faults
use Rattle.page_map.specs.Outcome.{Outcome, Refused}
use Rattle.page_map.specs.PageMap.{PageMap, View, block_at}
use Rattle.std.proofs.lemmas.Option.{none-some}
use Rattle.store_layout.specs.DiskLayout.{DiskLayout}
use Rattle.tx_table.specs.Kept.{over_kept}
use Rattle.tx_table.specs.Statuses.{status_relation}
use Rattle.tx_table.specs.TxState.{IsOver}
use Rattle.snapshot_core.specs.StoredVersions.{transaction_of}
use Rattle.coverage.specs.Machines.{Unseen, table_state}
use Rattle.coverage.specs.TableCovered.{IsTableKept}
use Rattle.index_steps.specs.ShownRows.{shown_by}
use Rattle.bitmap_scan.specs.declared.stage.Stage.TheVariants as stages
use Rattle.bitmap_scan.specs.Explains.{ExplainHand, ExplainSteps, IsPointOf, ListsBlocks, candidate_blocks, explaining}
use Rattle.bitmap_scan.specs.ScanAnswers.{IsDamagedAt, NamesPageAt, ReadOutcome}
use Rattle.bitmap_scan.specs.ScanHands.{IsHand, IsJudging, IsScanOf, ScanHand}
use Rattle.bitmap_scan.specs.ScanSteps.{point_at}
use Rattle.bitmap_scan.specs.TableScans.{Beside, task_of}
use Rattle.store_layout.specs.declared.statement.Statement.TheVariants as statements
use Rattle.session_parts.specs.declared.hand.Hand.{Hand}
use Rattle.session_parts.specs.declared.hand.Hand.TheVariants as hands
use Rattle.session_parts.specs.declared.hand.Stepped.{Stepped}
use Rattle.session_parts.specs.declared.hand.Stepped.TheVariants as stepped
use Rattle.session_parts.specs.declared.parts.Parts.{Parts}
use Rattle.session_parts.specs.DamagedPages.{NamesAPage, judged_names}
use Rattle.session_parts.specs.HandFits.{FitsHand, locks_held}
use Rattle.session_parts.specs.Shares.{share_of}
use Rattle.session_parts.specs.StepAnswers.{StaysReady}
use Rattle.session_parts.specs.StepIs.{hand_after}
use Rattle.session_parts.specs.Stepping.{IsFit, IsShown, LeavesTheOthers, StaysFit}
use Rattle.session_parts.specs.StoreFaults.{fault_of}
use Rattle.session_parts.specs.StoreStates.{ShownStore, hand_in, shown_of, store_of, with_hand}
use Rattle.session_parts.specs.UndoneLaws.{FitsParts, StepsSo}
use Rattle.session_parts.proofs.Stores.{hand_changes}
use Rattle.session_parts.proofs.Undone.{fit_of_parts, fit_of_stores, refused_is_undone}
use Rattle.session_maintenance.proofs.Explained.{explain_goes_on, explain_is_told}
use Rattle.session_maintenance.proofs.ExplainShown.{ExplainLeft}
use Rattle.session_maintenance.proofs.ExplainTurns.{ExplainsThere, judged, shows}

-- in a table that is kept a scan finds no damage
abbrev pub NotDamaged : Type 0
NotDamaged = (layout : DiskLayout) (pages : PageMap) (locks : LockState) (blocks : List (List Slot)) (s : ℕ) (hand : ScanHand) (beside : Beside) (u : Unseen) → IsScanOf layout hand → IsHand hand
    → u.task s ≡ task_of layout hand.stage hand beside → IsTableKept (table_state (shown_by layout pages locks hand.query.table blocks) u) → IsDamagedAt layout pages hand.indexes hand.stage → ⊥

module _ {D : Type 0} (told : D → Told) (parts : Parts D) (pages : View D) (n : ℕ) (before after : ExplainHand) (fit : IsFit told parts n (hands.Explains before)) (keeps : Keeps told parts.pages pages) where
  abbrev pub new : Parts D
  new = record parts { pages = pages }

  fits : FitsParts told parts n (Some (hands.Explains before))
  fits = fit_of_parts told parts n (hands.Explains before) fit

  over : IsOver told parts.transactions.tx pages
  over = over_kept told parts.transactions.tx parts.pages pages fits.over keeps.leaves (λ tells block. ap (λ (m : PageMap). block_at m status_relation block) (keeps.pages tells))

  fits_then : (h : Option Hand) → FitsHand parts.pages.layout (transaction_of parts.transactions.opens n) h → locks_held h ≡ 0
      → share_of h (transaction_of parts.transactions.opens n) ≡ share_of (Some (hands.Explains before)) (transaction_of parts.transactions.opens n) → FitsParts told new n h
  fits_then h in_hand none share = record {
    session = fits.session;
    over = over;
    in_hand = subst (λ (l : DiskLayout). FitsHand l (transaction_of parts.transactions.opens n) h) (sym keeps.leaves.layout) in_hand;
    limit = fits.limit;
    own = let own = fits.own in omega (arith, own, none);
    held = λ t holds. absurd (none-some t (fits.held t holds));
    rights = fits.rights ∙ ap (λ (l : DiskLayout). length l.schema.tables) (sym keeps.leaves.layout);
    entries = fits.entries;
    share = let more = fits.share in omega (arith, more, share);
  }

  stays_fit : (answer : Stepped) → FitsParts told new n (hand_after answer) → StaysFit told parts new n (hands.Explains before) answer
  stays_fit answer fits_so names hand_list is = fit_of_stores told new n (hand_after answer) names (with_hand hand_list n (hand_after answer)) fits_so (hand_changes hand_list n (hands.Explains before) (hand_after answer) is).own

  leaves_others : (answer : Stepped) → share_of (Some (hands.Explains before)) (transaction_of parts.transactions.opens n) ≡ share_of (hand_after answer) (transaction_of parts.transactions.opens n)
      → LeavesTheOthers told parts new n (hands.Explains before) answer
  leaves_others answer share names hand_list is = record {
    leaves = keeps.leaves;
    transactions = λ m apart. refl;
    locks = λ m apart. refl;
    rights = λ m t apart holds. holds;
    dropped = λ m apart. refl;
    promised = ap (λ (h : Option Hand). parts.journal.promised + share_of h (transaction_of parts.transactions.opens n)) is
        ∙ ap (λ (s : ℕ). parts.journal.promised + s) share
        ∙ ap (λ (h : Option Hand). parts.journal.promised + share_of h (transaction_of parts.transactions.opens n)) (sym (hand_changes hand_list n (hands.Explains before) (hand_after answer) is).own);
  }

  module _ (names : List (List ℕ)) (hand_list : List (Option Hand)) (is : hand_in hand_list n ≡ Some (hands.Explains before)) where
    abbrev old_store : ShownStore
    old_store = shown_of (store_of parts names hand_list)

    abbrev new_store : Option Hand → ShownStore
    new_store h = shown_of (store_of new names (with_hand hand_list n h))

    left : Tells told parts.pages → (h : Option Hand) → ExplainLeft old_store (new_store h) n before
    left tells h = record {
      there = record { was = is; scan = fits.in_hand.0 };
      others = record {
        layout = keeps.leaves.layout;
        names = refl;
        first = refl;
        hands = (hand_changes hand_list n (hands.Explains before) h is).others;
        opens = λ m apart. refl;
      };
      pages = keeps.pages tells;
      transactions = refl;
      locks = refl;
      rights = refl;
      queue = refl;
      dropped = refl;
      entries = refl;
    }

  -- it goes on
  pub moved_so : StaysReady parts.pages pages → (point : Point) → (Tells told parts.pages → ExplainSteps parts.pages.layout parts.pages.pages before.judging after.judging (did.Moved point))
      → (point ≡ point_at before.judging.stage) × IsJudging after.judging.stage → after.judging.stage ≢ stages.Extent → IsScanOf parts.pages.layout after.judging → after.judging.query ≡ before.judging.query
      → StepsSo told parts new n (hands.Explains before) (stepped.Moved point (hands.Explains after))
  unfolding left
  moved_so ready point steps named begun scan same = record {
    steps = λ names hand_list is tells first then p shown.
        explain_goes_on (old_store names hand_list is) (new_store names hand_list is (Some (hands.Explains after))) n before after (left names hand_list is tells (Some (hands.Explains after))) p shown fits.entries same point named.0
        (steps tells) begun (hand_changes hand_list n (hands.Explains before) (Some (hands.Explains after)) is).own;
    fit = stays_fit (stepped.Moved point (hands.Explains after)) (fits_then (Some (hands.Explains after)) (scan, named.1) refl refl);
    others = leaves_others (stepped.Moved point (hands.Explains after)) refl;
    stays = λ names hand_list is. ap statements.Explain same;
    cause = ready;
  }

  -- it tells its blocks
  pub told_so : StaysReady parts.pages pages → (point : Point) → (Tells told parts.pages → ExplainSteps parts.pages.layout parts.pages.pages before.judging after.judging (did.Finished point))
      → (point ≡ point_at before.judging.stage) × (after.judging.stage ≡ stages.Judged) → after.blocks ≡ candidate_blocks after.judging.candidates → IsHand after.judging → after.judging.query ≡ before.judging.query
      → StepsSo told parts new n (hands.Explains before) (stepped.Done (replies.Kept after.blocks))
  unfolding left
  told_so ready point steps named blocks known same = record {
    steps = λ names hand_list is tells first then p shown.
        explain_is_told (old_store names hand_list is) (new_store names hand_list is None) n before after (left names hand_list is tells None) p shown fits.entries same point named.0
        (steps tells) blocks known.extent (hand_changes hand_list n (hands.Explains before) None is).own;
    fit = stays_fit (stepped.Done (replies.Kept after.blocks)) (fits_then None tt refl refl);
    others = leaves_others (stepped.Done (replies.Kept after.blocks)) refl;
    stays = λ names hand_list is. tt;
    cause = ready;
  }

  -- the pages refuse it
  whole : NotDamaged → IsShown told parts n (hands.Explains before) → IsHand before.judging → parts.pages.failed ≡ None
      → (Tells told parts.pages → IsDamagedAt parts.pages.layout parts.pages.pages before.judging.indexes before.judging.stage) → Untold told parts.pages
  whole law shown known ready damaged tells =
      let it = shown tells ready in
      let old : ShownStore = shown_of (store_of parts it.0 it.1) in
      let there : ExplainsThere old n before = record { was = it.2; scan = fits.in_hand.0 } in
      let here = shows old n before there it.3.0 it.3.1 in
      let so = judged old n before there it.3.0 it.3.1 in
      law parts.pages.layout parts.pages.pages parts.locks here.blocks n before.judging (explaining so.judged) here.unseen fits.in_hand.0 known so.is (subst IsTableKept here.shown here.kept) (damaged tells)

  refused_by : NotDamaged → IsShown told parts n (hands.Explains before) → IsHand before.judging → (error : StoreError)
      → Refused told (Tells told parts.pages → IsDamagedAt parts.pages.layout parts.pages.pages before.judging.indexes before.judging.stage) parts.pages pages error
      → Refused told (Untold told parts.pages) parts.pages pages error
  refused_by law shown known errors.Disk refused = refused
  refused_by law shown known (errors.Reopen faults) refused = refused
  refused_by law shown known (errors.Damaged at) refused = (refused.0, refused.1, refused.2, whole law shown known refused.0 refused.3)

  pub undone_so : NotDamaged → IsShown told parts n (hands.Explains before) → IsHand before.judging → (error : StoreError)
      → Refused told (Tells told parts.pages → IsDamagedAt parts.pages.layout parts.pages.pages before.judging.indexes before.judging.stage) parts.pages pages error → NamesAPage parts.pages.layout error
      → StepsSo told parts new n (hands.Explains before) (stepped.Undone (fault_of error) (hands.Explains before))
  undone_so law shown known error refused names =
      refused_is_undone told parts new n (hands.Explains before) error fit over keeps.leaves (record { transactions = refl; locks = refl; rights = refl; journal = refl; queue = refl; dropped = refl }) (refused_by law shown known error refused) names

  -- ---- as the machine's step tells it

  abbrev pub Damage : Type 0
  Damage = Tells told parts.pages → IsDamagedAt parts.pages.layout parts.pages.pages before.judging.indexes before.judging.stage

  pub moved_by : Outcome {T = Did} told Damage parts.pages pages (Ok (did.Moved points.Page)) → (d : Did) (point : Point) → d ≡ did.Moved point
      → (Tells told parts.pages → ExplainSteps parts.pages.layout parts.pages.pages before.judging after.judging d) → IsPointOf before.judging.stage after.judging.stage d
      → after.judging.stage ≢ stages.Extent → IsScanOf parts.pages.layout after.judging → after.judging.query ≡ before.judging.query
      → StepsSo told parts new n (hands.Explains before) (stepped.Moved point (hands.Explains after))
  moved_by done d point is steps at begun scan same = moved_so (done.0, done.1) point
      (λ tells. subst (λ (x : Did). ExplainSteps parts.pages.layout parts.pages.pages before.judging after.judging x) is (steps tells))
      (subst (λ (x : Did). IsPointOf before.judging.stage after.judging.stage x) is at) begun scan same

  pub told_by : Outcome {T = Did} told Damage parts.pages pages (Ok (did.Moved points.Page)) → (d : Did) (point : Point) → d ≡ did.Finished point
      → (Tells told parts.pages → ExplainSteps parts.pages.layout parts.pages.pages before.judging after.judging d) → IsPointOf before.judging.stage after.judging.stage d → ListsBlocks before after d
      → IsHand after.judging → after.judging.query ≡ before.judging.query → (answer : Stepped) → answer ≡ stepped.Done (replies.Kept after.blocks)
      → StepsSo told parts new n (hands.Explains before) answer
  told_by done d point is steps at lists known same answer answer_is = subst (λ (a : Stepped). StepsSo told parts new n (hands.Explains before) a) (sym answer_is)
      (told_so (done.0, done.1) point
      (λ tells. subst (λ (x : Did). ExplainSteps parts.pages.layout parts.pages.pages before.judging after.judging x) is (steps tells))
      (subst (λ (x : Did). IsPointOf before.judging.stage after.judging.stage x) is at) (subst (λ (x : Did). ListsBlocks before after x) is lists) known same)

  pub undone_by : NotDamaged → IsShown told parts n (hands.Explains before) → IsHand before.judging → (fault : MachineFault) (error : StoreError) → fault ≡ faults.Store error
      → ReadOutcome {T = Did} told Damage parts.pages pages (Err fault) → NamesPageAt parts.pages.layout before.judging.indexes before.judging.stage fault → (answer : Stepped) → answer ≡ stepped.Undone (fault_of error) (hands.Explains before)
      → StepsSo told parts new n (hands.Explains before) answer
  undone_by law shown known fault error is outcome names answer answer_is = subst (λ (a : Stepped). StepsSo told parts new n (hands.Explains before) a) (sym answer_is)
      (undone_so law shown known error (subst (λ (f : MachineFault). ReadOutcome {T = Did} told Damage parts.pages pages (Err f)) is outcome)
      (judged_names parts.pages.layout before.judging.indexes before.judging.stage error (subst (λ (f : MachineFault). NamesPageAt parts.pages.layout before.judging.indexes before.judging.stage f) is names)))
