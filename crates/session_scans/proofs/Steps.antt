-- what a step of a scan promises, by what its calls ensure
use Rattle.std.proofs.Common.{◌≡◌, ◌≢◌, ℕ, ◌+◌, ◌<◌, ◌≤◌, false, List, [], ◌∷◌, ◌++◌, length, length-append, Option, None, Some, All, refl, sym, ap, ◌∙◌, subst, arith}
use Rattle.disk_trait.specs.Told.{Told}
use Rattle.block_model.specs.declared.reply.Point.{Point}
use Rattle.block_model.specs.declared.reply.Refusal.TheVariants as refusals
use Rattle.block_model.specs.declared.reply.Reply.{Reply}
use Rattle.block_model.specs.declared.reply.Reply.TheVariants as replies
use Rattle.block_model.specs.declared.request.Entry.{Entry}
use Rattle.block_model.specs.declared.row.Query.{Query}
use Rattle.block_model.specs.declared.row.Row.{Row}
use Rattle.page_layout.specs.PageContents.{Slot}
use Rattle.page_locks.specs.declared.did.Did.{Did}
use Rattle.page_locks.specs.declared.did.Did.TheVariants as did
use Rattle.page_locks.specs.LockHolders.{LockState}
use Rattle.page_map.specs.declared.faults.StoreError.{StoreError}
use Rattle.page_map.specs.declared.faults.StoreError.TheVariants as errors
use Rattle.page_map.specs.Keeps.{Keeps, Tells, Untold}
use Rattle.page_map.specs.Outcome.{Refused}
use Rattle.page_map.specs.PageMap.{PageMap, View}
use Rattle.heap_rows.specs.HeapBlocks.{OfBlocks}
use Rattle.index_steps.specs.ShownRows.{shown_by}
use Rattle.store_layout.specs.declared.limits.TheConstants.{MAX_ENTRIES}
use Rattle.store_layout.specs.declared.statement.Statement.{Statement}
use Rattle.store_layout.specs.StatementRequests.{look_entry}
use Rattle.store_layout.specs.DiskLayout.{DiskLayout}
use Rattle.snapshot_core.specs.declared.sessions.Open.{Open}
use Rattle.snapshot_core.specs.SessionChanges.{failed_open}
use Rattle.snapshot_core.specs.StoredVersions.{transaction_of}
use Rattle.tx_table.specs.TxState.{IsOver}
use Rattle.transactions.specs.TransactionsState.{TransactionsState, with_failed}
use Rattle.coverage.specs.Machines.{Unseen, table_state}
use Rattle.coverage.specs.TableCovered.{IsTableKept}
use Rattle.bitmap_scan.specs.declared.stage.Stage.{Stage}
use Rattle.bitmap_scan.specs.declared.stage.Stage.TheVariants as stages
use Rattle.bitmap_scan.specs.Finds as scans
use Rattle.bitmap_scan.specs.Finds.{FindHand, FindSteps, FindsThere, IsFindOf, IsPointIn, IsScanning, OfSight, scanning}
use Rattle.bitmap_scan.specs.LastStatuses.{Remembers}
use Rattle.bitmap_scan.specs.LooksAhead.{NextIs}
use Rattle.bitmap_scan.specs.ScanAnswers.{IsDamagedAt}
use Rattle.bitmap_scan.specs.ScanHands.{IsHand, IsScanOf, ScanHand}
use Rattle.bitmap_scan.specs.TableScans.{Beside, task_of}
use Rattle.script_semantics.specs.Place.{Place}
use Rattle.session_parts.specs.declared.faults.StoreFault.TheVariants as stops
use Rattle.session_parts.specs.declared.hand.Hand.{Hand}
use Rattle.session_parts.specs.declared.hand.Stepped.TheVariants as stepped
use Rattle.session_parts.specs.declared.parts.Parts.{Parts}
use Rattle.session_parts.specs.DamagedPages.{NamesAPage}
use Rattle.session_parts.specs.HandFits.{FitsHand, locks_held}
use Rattle.session_parts.specs.Hands.{statement_of}
use Rattle.session_parts.specs.JournalState.{JournalState}
use Rattle.session_parts.specs.Shares.{hand_share, share_of}
use Rattle.session_parts.specs.ShowsPlace.{IsPlaceOf}
use Rattle.session_parts.specs.StepAnswers.{most_entered}
use Rattle.session_parts.specs.Stepping.{IsFit, IsShown}
use Rattle.session_parts.specs.StoreFaults.{fault_of}
use Rattle.session_parts.specs.StoreStates.{ShownStore, hand_in, shown_of, store_of, with_hand}
use Rattle.session_parts.specs.UndoneLaws.{FitsParts, StepsSo}
use Rattle.session_parts.proofs.Stores.{hand_changes}
use Rattle.session_parts.proofs.Undone.{fit_of_parts, refused_is_undone, spent_is_undone}
use Rattle.session_scans.specs.declared.looking.Looking.{Looking}
use Rattle.session_scans.specs.Finishes.{IsReplyOf}
use Rattle.session_scans.specs.FoundLists.{ListsRows}
use Rattle.session_scans.specs.LookLaws.{LookLaws}
use Rattle.session_scans.specs.Looks.{deletes_of, first_hand_of, hand_before, scan_hand_of, statement_for}
use Rattle.session_scans.specs.ScanSteps.{IsFresh}
use Rattle.session_scans.proofs.Ahead.{not_the_last}
use Rattle.session_scans.proofs.Frames.{LeavesParts, failed_apart, failed_here, made_so, over_still, promised_failed, under_way}
use Rattle.session_scans.proofs.GoesOn.{scan_goes_on}
use Rattle.session_scans.proofs.Stepped.{MakesStep}
use Rattle.session_scans.proofs.Led.{ScanLeft}
use Rattle.session_scans.proofs.Refusals.{lacks_room, refused_entry}
use Rattle.session_scans.proofs.Refused.{scan_refused}
use Rattle.session_scans.proofs.Standing.{LooksThere, kept, scans_at, shows, sight}
use Rattle.session_scans.proofs.Stands.{IsThere, all_stand}
use Rattle.session_scans.proofs.Tells.{scan_tells}
use Rattle.session_scans.proofs.Words.{FitsLook, IsHandOf, first_is, fits_first, fits_scan, hand_is, looks, scan_is, scan_share}

-- in a table that is kept a scan finds no damage
abbrev pub NotDamaged : Type 0
NotDamaged = (layout : DiskLayout) (pages : PageMap) (locks : LockState) (blocks : List (List Slot)) (s : ℕ) (hand : ScanHand) (beside : Beside) (u : Unseen) → IsScanOf layout hand → IsHand hand
    → u.task s ≡ task_of layout hand.stage hand beside → IsTableKept (table_state (shown_by layout pages locks hand.query.table blocks) u) → IsDamagedAt layout pages hand.indexes hand.stage → ⊥

-- what the machine's step did, for the session's transaction
pub record DidScan {D : Type 0} (told : D → Told) (old : Parts D) (pages : View D) (o : Open) (before after : FindHand) (answer : Did) : Type 0 where
  pub stepped : Tells told old.pages → OfSight old.pages.layout old.pages.pages o.snapshot o.t old.transactions.tx.first (λ sight. FindSteps old.pages.layout old.pages.pages sight before after answer)
  pub rows : OfBlocks told old.pages before.judging.query.table (λ blocks. OfSight old.pages.layout old.pages.pages o.snapshot o.t old.transactions.tx.first (λ sight. FindsThere sight blocks before after before.next))
  pub remembers : Tells told old.pages → OfSight old.pages.layout old.pages.pages o.snapshot o.t old.transactions.tx.first (λ sight. Remembers sight after.last)
  pub point : IsPointIn before after answer
  pub begun : after.judging.stage ≢ stages.Extent
  pub find : IsFindOf old.pages.layout after
  pub same : after.judging.query ≡ before.judging.query
  pub ready : old.pages.failed ≡ None
  pub still : pages.failed ≡ None

module _ {D : Type 0} (told : D → Told) (laws : LookLaws) (old : Parts D) (pages : View D) (n : ℕ) (looking : Looking) (before : FindHand) (fit : IsFit told old n (hand_before looking before before.judging.stage))
    (find : IsFindOf old.pages.layout before) (fresh : before.judging.stage ≡ stages.Extent → IsFresh before) (o : Open) (opened : transaction_of old.transactions.opens n ≡ Some o) (keeps : Keeps told old.pages pages) where
  abbrev stage : Stage
  stage = before.judging.stage

  abbrev query : Query
  query = before.judging.query

  abbrev pub was : Hand
  was = hand_before looking before before.judging.stage

  pub fits : FitsParts told old n (Some was)
  fits = fit_of_parts told old n was fit

  abbrev its : IsHandOf looking query (scan_share stage) was
  its = hand_is looking before stage

  pub look : FitsLook old.pages.layout (transaction_of old.transactions.opens n) query
  look = its.look old.pages.layout (transaction_of old.transactions.opens n) fits.in_hand

  pub whole : o.failed ≡ false
  whole = under_way (transaction_of old.transactions.opens n) o opened look.0

  pub over : IsOver told old.transactions.tx pages
  over = over_still told old.transactions.tx old.pages pages fits.over keeps

  -- behind it the journal is this
  abbrev pub then : JournalState → Parts D
  then j = record old { pages = pages; journal = j }

  module _ (names : List (List ℕ)) (hands_ : List (Option Hand)) (is : hand_in hands_ n ≡ Some was) where
    abbrev pub store : ShownStore
    store = shown_of (store_of old names hands_)

    abbrev pub store_then : JournalState → Option Hand → ShownStore
    store_then j h = shown_of (store_of (then j) names (with_hand hands_ n h))

    pub there : LooksThere store n looking before o
    there = record { was = is; find = find; opened = opened; whole = whole; fresh = fresh }

    -- with this as its transactions
    pub left_with : Tells told old.pages → (tx : TransactionsState) → tx.tx.first ≡ old.transactions.tx.first → ((m : ℕ) → m ≢ n → transaction_of tx.opens m ≡ transaction_of old.transactions.opens m)
        → (j : JournalState) (h : Option Hand) → ScanLeft store (shown_of (store_of (record old { pages = pages; transactions = tx; journal = j }) names (with_hand hands_ n h))) n tx
    left_with tells tx first opens j h = record {
      others = record { layout = keeps.leaves.layout; names = refl; first = first; hands = (hand_changes hands_ n was h is).others; opens = opens };
      pages = keeps.pages tells;
      transactions = refl;
      locks = refl;
      rights = refl;
      queue = refl;
      dropped = refl;
    }

    pub left : Tells told old.pages → (j : JournalState) (h : Option Hand) → ScanLeft store (store_then j h) n old.transactions
    left tells j h = left_with tells old.transactions refl (λ m apart. refl) j h

    module _ (tells : Tells told old.pages) (p : Place) (shown : IsPlaceOf store p) (after : FindHand) (answer : Did) (made : DidScan told old pages o before after answer) where
      pub steps_there : MakesStep laws store n looking before after o there p shown answer
      steps_there = made.stepped tells shown.database.stored shown.database.has

      pub stand_there : All (IsThere query.table (shows laws store n looking before o there p shown).blocks) after.found
      stand_there = all_stand (sight laws store n looking before o there p shown) (shows laws store n looking before o there p shown).blocks before after before.next
          (made.rows tells (shows laws store n looking before o there p shown).blocks (shows laws store n looking before o there p shown).has shown.database.stored shown.database.has)
          (scans_at laws store n looking before o there p shown).stand

      remembers_there : Remembers (sight laws store n looking before o there p shown) after.last
      remembers_there = made.remembers tells shown.database.stored shown.database.has

  -- what is left behind it of the parts
  pub left_parts : (j : JournalState) (now : Option Hand) → FitsHand old.pages.layout (transaction_of old.transactions.opens n) now → locks_held now ≡ 0 → length j.entries ≤ MAX_ENTRIES
      → j.promised + share_of (Some was) (transaction_of old.transactions.opens n) ≡ old.journal.promised + share_of now (transaction_of old.transactions.opens n)
      → LeavesParts told old pages old.transactions j n was now
  left_parts j now in_hand held entries promised = record {
    fits = fit;
    leaves = keeps.leaves;
    over = over;
    in_hand = subst (λ (l : DiskLayout). FitsHand l (transaction_of old.transactions.opens n) now) (sym keeps.leaves.layout) in_hand;
    held = held ∙ sym its.holds;
    right = its.right old.pages.layout;
    entries = entries;
    promised = promised;
    opens = λ m apart. refl;
  }

  -- a full journal has no room for what it may enter
  full_then : MAX_ENTRIES < length old.journal.entries + 1 → MAX_ENTRIES < length old.journal.entries + most_entered (statement_of was)
  full_then full = subst (λ (s : Statement). MAX_ENTRIES < length old.journal.entries + most_entered s) (sym its.statement) ((looks looking query).full (length old.journal.entries) full)

  -- ---- it goes on

  module _ (j : JournalState) (same_entries : j.entries ≡ old.journal.entries) where
    pub few : length j.entries ≤ MAX_ENTRIES
    few = subst (λ (l : List Entry). length l ≤ MAX_ENTRIES) (sym same_entries) fits.entries

    module _ (after : FindHand) (point : Point) (made : DidScan told old pages o before after (did.Moved point))
        (promised : j.promised + share_of (Some was) (transaction_of old.transactions.opens n) ≡ old.journal.promised + share_of (Some (scan_hand_of looking after)) (transaction_of old.transactions.opens n)) where
      pub moved_so : StepsSo told old (then j) n was (stepped.Moved point (scan_hand_of looking after))
      moved_so = made_so told old pages old.transactions j n was (Some (scan_hand_of looking after))
          (left_parts j (Some (scan_hand_of looking after)) (fits_scan old.pages.layout (transaction_of old.transactions.opens n) looking after (look.0, made.find, made.point.1, made.begun)) (scan_is looking after).holds few promised)
          (stepped.Moved point (scan_hand_of looking after)) refl
          (λ names hands_ is tells first last p shown. scan_goes_on laws (store names hands_ is) (store_then names hands_ is j (Some (scan_hand_of looking after))) n looking before after o (there names hands_ is) p shown
          (left names hands_ is tells j (Some (scan_hand_of looking after))) fits.entries same_entries made.same point made.point.0 (steps_there names hands_ is tells p shown after (did.Moved point) made) made.begun
          (hand_changes hands_ n was (Some (scan_hand_of looking after)) is).own (stand_there names hands_ is tells p shown after (did.Moved point) made) (remembers_there names hands_ is tells p shown after (did.Moved point) made))
          (λ names hands_ is. (scan_is looking after).statement ∙ ap (statement_for looking) made.same ∙ sym its.statement) (made.ready, made.still)

    -- at a full journal it isn't the last one; where the disk tells nothing it may begin anew
    module _ (after : FindHand) (point : Point) (made : DidScan told old pages o before after (did.Finished point)) (ahead : Tells told old.pages → NextIs old.pages.layout old.pages.pages before did.Moved)
        (full : MAX_ENTRIES < length old.journal.entries + 1)
        (promised : j.promised + share_of (Some was) (transaction_of old.transactions.opens n) ≡ old.journal.promised + share_of (Some (first_hand_of looking after.judging.query)) (transaction_of old.transactions.opens n)) where
      abbrev anew : Hand
      anew = first_hand_of looking after.judging.query

      pub anew_so : StepsSo told old (then j) n was (stepped.Undone (stops.Spent (length old.journal.entries)) anew)
      anew_so = made_so told old pages old.transactions j n was (Some anew)
          (left_parts j (Some anew) (fits_first old.pages.layout (transaction_of old.transactions.opens n) looking after.judging.query (look.0, made.find.judging.table)) (first_is looking after.judging.query).holds few promised)
          (stepped.Undone (stops.Spent (length old.journal.entries)) anew) refl
          (λ names hands_ is tells first last p shown.
          absurd (not_the_last laws (store names hands_ is) n looking before after o (there names hands_ is) p shown (ahead tells) point (steps_there names hands_ is tells p shown after (did.Finished point) made)))
          (λ names hands_ is. (
            record { pages = keeps; transactions = refl; locks = refl; rights = refl; journal = same_entries; queue = refl; dropped = refl },
            (first_is looking after.judging.query).statement ∙ ap (statement_for looking) made.same ∙ sym its.statement,
            refl,
            full_then full,
          )) (made.ready, made.still)

  -- ---- its statement replies

  module _ (j : JournalState) (looked : j.entries ≡ old.journal.entries ++ look_entry n query ∷ []) (room : length old.journal.entries + 1 ≤ MAX_ENTRIES)
      (promised : j.promised + share_of (Some was) (transaction_of old.transactions.opens n) ≡ old.journal.promised + share_of None (transaction_of old.transactions.opens n))
      (after : FindHand) (point : Point) (made : DidScan told old pages o before after (did.Finished point)) (ascend : scans.Ascend 0 0 after.found)
      (reply : Reply) (rows : List Row) (lists : ListsRows after.found rows) (replied : IsReplyOf looking after.found rows reply) where
    fits_then : length j.entries ≤ MAX_ENTRIES
    fits_then = omega (arith, room, ap length looked, length-append old.journal.entries (look_entry n query ∷ []))

    pub tells_so : StepsSo told old (then j) n was (stepped.Done reply)
    tells_so = made_so told old pages old.transactions j n was None (left_parts j None tt refl fits_then promised) (stepped.Done reply) refl
        (λ names hands_ is tells first last p shown. scan_tells laws (store names hands_ is) (store_then names hands_ is j None) n looking before after o (there names hands_ is) p shown (left names hands_ is tells j None) fits_then looked
        (hand_changes hands_ n was None is).own made.same point made.point.0 (steps_there names hands_ is tells p shown after (did.Finished point) made)
        (stand_there names hands_ is tells p shown after (did.Finished point) made) ascend reply rows lists replied)
        (λ names hands_ is. tt) (made.ready, made.still)

  -- ---- memory is short

  module _ (ready : old.pages.failed ≡ None) (still : pages.failed ≡ None) (j : JournalState) (short : j.entries ≡ old.journal.entries ++ refused_entry n query ∷ []) (room : length old.journal.entries + 1 ≤ MAX_ENTRIES)
      (share before_share : ℕ) (share_was : hand_share (Some was) ≡ share) (promise : old.journal.promised + 1 ≡ before_share + share) (less : j.promised + 2 ≡ before_share) where
    short_fits : length j.entries ≤ MAX_ENTRIES
    short_fits = omega (arith, room, ap length short, length-append old.journal.entries (refused_entry n query ∷ []))

    abbrev failed : Parts D
    failed = record old { pages = pages; transactions = with_failed old.transactions n o; journal = j }

    pub refused_so : StepsSo told old failed n was (stepped.Done (replies.Refused refusals.Memory))
    refused_so = made_so told old pages (with_failed old.transactions n o) j n was None (record {
      fits = fit;
      leaves = keeps.leaves;
      over = over;
      in_hand = tt;
      held = sym its.holds;
      right = its.right old.pages.layout;
      entries = short_fits;
      promised = promised_failed o (failed_open o) (transaction_of old.transactions.opens n) (transaction_of (with_failed old.transactions n o).opens n) (Some was) j.promised old.journal.promised before_share share
          opened (failed_here old.transactions.opens n o (failed_open o) opened) whole refl share_was promise less;
      opens = λ m apart. failed_apart old.transactions.opens n m o apart;
    }) (stepped.Done (replies.Refused refusals.Memory)) refl
        (λ names hands_ is tells first last p shown.
        scan_refused laws (store names hands_ is) (shown_of (store_of failed names (with_hand hands_ n None))) n looking before o (there names hands_ is) p shown
        (left_with names hands_ is tells (with_failed old.transactions n o) refl (λ m apart. failed_apart old.transactions.opens n m o apart) j None) short (hand_changes hands_ n was None is).own short_fits)
        (λ names hands_ is. tt) (ready, still)

  -- ---- the journal lacks room

  module _ (ready : old.pages.failed ≡ None) (full : MAX_ENTRIES < length old.journal.entries + 1) where
    pub spent_so : StepsSo told old old n was (stepped.Undone (stops.Spent (length old.journal.entries)) was)
    spent_so = spent_is_undone told old n was (length old.journal.entries) fit ready refl (full_then full)
        (λ names hands_ p is tells shown. lacks_room laws (store names hands_ is) n looking before o (there names hands_ is) p shown full)

  -- ---- the pages refuse it

  undamaged : NotDamaged → IsShown told old n was → IsHand before.judging → old.pages.failed ≡ None
      → (Tells told old.pages → IsDamagedAt old.pages.layout old.pages.pages before.judging.indexes before.judging.stage) → Untold told old.pages
  undamaged law shown known ready damaged tells =
      let it = shown tells ready in
      let its_store : ShownStore = shown_of (store_of old it.0 it.1) in
      let its_there : LooksThere its_store n looking before o = there it.0 it.1 it.2 in
      let here = shows laws its_store n looking before o its_there it.3.0 it.3.1 in
      let at = scans_at laws its_store n looking before o its_there it.3.0 it.3.1 in
      law old.pages.layout old.pages.pages old.locks here.blocks n before.judging (scanning at.sees at.judged (deletes_of looking) before) here.unseen find.judging known at.is
      (kept laws its_store n looking before o its_there it.3.0 it.3.1) (damaged tells)

  refused_by : NotDamaged → IsShown told old n was → IsHand before.judging → (error : StoreError)
      → Refused told (Tells told old.pages → IsDamagedAt old.pages.layout old.pages.pages before.judging.indexes before.judging.stage) old.pages pages error → Refused told (Untold told old.pages) old.pages pages error
  refused_by law shown known (errors.Damaged at) refused = (refused.0, refused.1, refused.2, undamaged law shown known refused.0 refused.3)
  refused_by law shown known error refused = refused

  pub undone_so : NotDamaged → IsShown told old n was → IsHand before.judging → (error : StoreError)
      → Refused told (Tells told old.pages → IsDamagedAt old.pages.layout old.pages.pages before.judging.indexes before.judging.stage) old.pages pages error → NamesAPage old.pages.layout error
      → StepsSo told old (record old { pages = pages }) n was (stepped.Undone (fault_of error) was)
  undone_so law shown known error refused names =
      refused_is_undone told old (record old { pages = pages }) n was error fit over keeps.leaves (record { transactions = refl; locks = refl; rights = refl; journal = refl; queue = refl; dropped = refl }) (refused_by law shown known error refused) names
