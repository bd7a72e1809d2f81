-- what a call of the scan's machine did, and what comes of it
use Rattle.std.proofs.Common.{◌≡◌, ◌≢◌, ℕ, ◌+◌, ◌<◌, Bool, List, length, Option, None, Some, Ok, Err, refl, sym, ap, ◌∙◌, subst}
use Rattle.disk_trait.specs.Told.{Told}
use Rattle.block_model.specs.declared.reply.Point.{Point}
use Rattle.page_locks.specs.declared.did.Did.{Did}
use Rattle.page_locks.specs.declared.did.Did.TheVariants as did
use Rattle.page_map.specs.declared.faults.MachineFault.{MachineFault}
use Rattle.page_map.specs.declared.faults.MachineFault.TheVariants as faults
use Rattle.page_map.specs.declared.faults.StoreError.{StoreError}
use Rattle.page_map.specs.Keeps.{Keeps, Tells}
use Rattle.page_map.specs.Outcome.{Refused}
use Rattle.page_map.specs.PageMap.{PageMap, View}
use Rattle.heap_rows.specs.HeapBlocks.{OfBlocks}
use Rattle.store_layout.specs.DiskLayout.{DiskLayout}
use Rattle.snapshot_core.specs.declared.statuses.Status.{Status}
use Rattle.store_layout.specs.declared.limits.TheConstants.{MAX_ENTRIES}
use Rattle.snapshot_core.specs.declared.sessions.Open.{Open}
use Rattle.snapshot_core.specs.StoredVersions.{transaction_of}
use Rattle.tx_table.specs.TxState.{TxState}
use Rattle.tx_table.proofs.Pages.{statuses_one}
use Rattle.tx_table.proofs.Stores.{keeps_same}
use Rattle.bitmap_scan.specs.declared.stage.Stage.TheVariants as stages
use Rattle.bitmap_scan.specs.Finds.{FaultNamesNext, FindHand, FindOutcome, FindSteps, FindsThere, IsFindOf, IsPointIn, OfSight}
use Rattle.bitmap_scan.specs.LastStatuses.{Remembers}
use Rattle.bitmap_scan.specs.LooksAhead.{NextIs}
use Rattle.bitmap_scan.specs.ScanAnswers.{IsDamagedAt, ReadOutcome}
use Rattle.bitmap_scan.specs.ScanHands.{IsHand}
use Rattle.session_parts.specs.declared.faults.StoreFault.{StoreFault}
use Rattle.session_parts.specs.declared.faults.StoreFault.TheVariants as stops
use Rattle.session_parts.specs.declared.hand.Hand.{Hand}
use Rattle.session_parts.specs.declared.hand.Stepped.TheVariants as stepped
use Rattle.session_parts.specs.declared.parts.Parts.{Parts}
use Rattle.session_parts.specs.DamagedPages.{NamesAPage, next_names}
use Rattle.session_parts.specs.HandsInTables.{sight_of}
use Rattle.session_parts.specs.StoreFaults.{fault_of}
use Rattle.session_parts.specs.StoreStates.{ShownStore, shown_of, store_of}
use Rattle.session_scans.specs.declared.looking.Looking.{Looking}
use Rattle.session_scans.specs.declared.scanning.Scanned.{Scanned}
use Rattle.session_scans.specs.declared.scanning.Scanned.TheVariants as scanned
use Rattle.session_scans.specs.LookLaws.{LookLaws}
use Rattle.session_scans.specs.Looks.{hand_before, scan_hand_of}
use Rattle.session_scans.specs.ScanSteps.{MayScan, ScanStepsSo, parts_before}
use Rattle.session_scans.specs.ScansInPlace.{DoesScan, RunsShort}
use Rattle.session_scans.proofs.Frames.{promised_on}
use Rattle.session_scans.proofs.Mays.{behind, may_still}
use Rattle.session_scans.proofs.Short.{is_spent, its_open}
use Rattle.session_scans.proofs.Standing.{LooksThere, scans_at}
use Rattle.session_scans.proofs.Steps.{DidScan, NotDamaged, moved_so, there, undone_so}
use Rattle.session_scans.proofs.Words.{hand_is, promised_is, scan_is, scan_share}

-- the damage that a step may tell
abbrev pub IsDamagedThere : {D : Type 0} → (D → Told) → Parts D → FindHand → Type 0
IsDamagedThere told parts scan = Tells told parts.pages → IsDamagedAt parts.pages.layout parts.pages.pages scan.judging.indexes scan.judging.stage

-- ---- what a step is done or refused by, whatever is next

module _ {D : Type 0} (told : D → Told) (Cause : Type 0) (old new : View D) where
  pub done_well : (next : Option ℕ) (value : Did) → FindOutcome {D = D} {T = Did} told Cause old new next (Ok value) → (old.failed ≡ None) × (new.failed ≡ None)
  done_well None value outcome = (outcome.0, outcome.1)
  done_well (Some b) value outcome = (outcome.0, outcome.1)

  short_there : (next : Option ℕ) → FindOutcome {D = D} {T = Did} told Cause old new next (Err faults.Memory) → (old.failed ≡ None) × (new.failed ≡ None)
  short_there None outcome = absurd outcome
  short_there (Some b) outcome = outcome

  pub short_well : (next : Option ℕ) (fault : MachineFault) → fault ≡ faults.Memory → FindOutcome {D = D} {T = Did} told Cause old new next (Err fault) → (old.failed ≡ None) × (new.failed ≡ None)
  short_well next fault is outcome = short_there next (subst (λ (f : MachineFault). FindOutcome {D = D} {T = Did} told Cause old new next (Err f)) is outcome)

  refused_next : (next : Option ℕ) (error : StoreError) → FindOutcome {D = D} {T = Did} told Cause old new next (Err (faults.Store error)) → Refused told Cause old new error
  refused_next None error outcome = outcome
  refused_next (Some b) error outcome = outcome

  pub refused_there : (next : Option ℕ) (error : StoreError) (fault : MachineFault) → fault ≡ faults.Store error → FindOutcome {D = D} {T = Did} told Cause old new next (Err fault) → Refused told Cause old new error
  refused_there next error fault is outcome = refused_next next error (subst (λ (f : MachineFault). FindOutcome {D = D} {T = Did} told Cause old new next (Err f)) is outcome)

  pub refused_read : (error : StoreError) (fault : MachineFault) → fault ≡ faults.Store error → ReadOutcome {D = D} {T = Bool} told Cause old new (Err fault) → Refused told Cause old new error
  refused_read error fault is outcome = subst (λ (f : MachineFault). ReadOutcome {D = D} {T = Bool} told Cause old new (Err f)) is outcome

-- the page at which it tells damage
pub names_there : (layout : DiskLayout) (hand : FindHand) (next : Option ℕ) (error : StoreError) (fault : MachineFault) → fault ≡ faults.Store error → FaultNamesNext layout hand next fault → NamesAPage layout error
names_there layout hand next error fault is names = next_names layout hand next error (subst (λ (f : MachineFault). FaultNamesNext layout hand next f) is names)

-- ---- what it did, by transactions that are those of the parts

module _ {D : Type 0} (told : D → Told) (parts : Parts D) (pages : View D) (o : Open) (before after : FindHand) (answer : Did) where
  pub record DoesOver (tx : TxState) : Type 0 where
    pub stepped : Tells told parts.pages → OfSight parts.pages.layout parts.pages.pages o.snapshot o.t tx.first (λ sight. FindSteps parts.pages.layout parts.pages.pages sight before after answer)
    pub rows : OfBlocks told parts.pages before.judging.query.table (λ blocks. OfSight parts.pages.layout parts.pages.pages o.snapshot o.t tx.first (λ sight. FindsThere sight blocks before after before.next))
    pub remembers : Tells told parts.pages → OfSight parts.pages.layout parts.pages.pages o.snapshot o.t tx.first (λ sight. Remembers sight after.last)

  pub did_scan : (tx : TxState) → tx ≡ parts.transactions.tx → (other : Did) → answer ≡ other → DoesOver tx → IsPointIn before after answer → after.judging.stage ≢ stages.Extent → IsFindOf parts.pages.layout after
      → after.judging.query ≡ before.judging.query → (parts.pages.failed ≡ None) × (pages.failed ≡ None) → DidScan told (parts_before before.judging.stage parts) pages o before after other
  did_scan tx is other answer_is does point begun find same well =
      let it : DoesOver parts.transactions.tx = subst DoesOver is does in
      subst (λ (d : Did). DidScan told (parts_before before.judging.stage parts) pages o before after d) answer_is
      (record { stepped = it.stepped; rows = it.rows; remembers = it.remembers; point = point; begun = begun; find = find; same = same; ready = well.0; still = well.1 })

module _ {D : Type 0} (told : D → Told) (laws : LookLaws) (parts : Parts D) (n : ℕ) (looking : Looking) (scan : FindHand) (may : MayScan told parts n looking scan) (ready : parts.pages.failed ≡ None) where
  abbrev old : Parts D
  old = parts_before scan.judging.stage parts

  abbrev was : Hand
  was = hand_before looking scan scan.judging.stage

  -- ---- before the step: what the scan remembers stands

  module _ (o : Open) (opened : transaction_of parts.transactions.opens n ≡ Some o) where
    remembered : Tells told parts.pages → OfSight parts.pages.layout parts.pages.pages o.snapshot o.t parts.transactions.tx.first (λ sight. Remembers sight scan.last)
    remembered tells statuses has =
        let it = may.shown tells ready in
        let s : ShownStore = shown_of (store_of old it.0 it.1) in
        let its_there : LooksThere s n looking scan o = there told laws old parts.pages n looking scan may.fit may.find may.fresh o opened (keeps_same told parts.pages) it.0 it.1 it.2 in
        subst (λ (l : List Status). Remembers (sight_of parts.transactions.tx l o) scan.last)
        (statuses_one parts.pages.layout parts.pages.pages it.3.1.database.stored statuses it.3.1.database.has has)
        (scans_at laws s n looking scan o its_there it.3.0 it.3.1).remembers

    pub remembered_by : (tx : TxState) → tx ≡ parts.transactions.tx → Tells told parts.pages
        → OfSight parts.pages.layout parts.pages.pages o.snapshot o.t tx.first (λ sight. Remembers sight scan.last)
    remembered_by tx is tells = subst (λ (x : TxState). OfSight parts.pages.layout parts.pages.pages o.snapshot o.t x.first (λ sight. Remembers sight scan.last)) (sym is) (remembered tells)

  module _ (pages : View D) (keeps : Keeps told parts.pages pages) where
    abbrev mid : Parts D
    mid = record parts { pages = pages }

    -- ---- it goes on

    pub goes_on : (o : Open) → transaction_of parts.transactions.opens n ≡ Some o → (after : FindHand) (point : Point) → DidScan told old pages o scan after (did.Moved point)
        → ScanStepsSo told parts mid n looking scan (stepped.Moved point (scan_hand_of looking after))
    goes_on o opened after point made =
        moved_so told laws old pages n looking scan may.fit may.find may.fresh o opened keeps parts.journal refl after point made
        (promised_on (transaction_of parts.transactions.opens n) (Some was) (Some (scan_hand_of looking after)) parts.journal.promised old.journal.promised parts.journal.promised (scan_share scan.judging.stage)
        (hand_is looking scan scan.judging.stage).share (promised_is scan.judging.stage parts.journal.promised may.promised) (ap (λ (k : ℕ). parts.journal.promised + k) (sym ((scan_is looking after).share))))

    -- what the look found of its next step
    pub next_then : (after : FindHand) → after ≡ scan → (does : Point → Did) → (Tells told parts.pages → NextIs parts.pages.layout parts.pages.pages scan does) → Tells told pages → NextIs pages.layout pages.pages after does
    next_then after same does goes tells_then =
        let tells : Tells told parts.pages = sym keeps.leaves.tells ∙ tells_then in
        subst (λ (x : FindHand). NextIs pages.layout pages.pages x does) (sym same)
        (subst (λ (l : DiskLayout). NextIs l pages.pages scan does) (sym keeps.leaves.layout)
        (subst (λ (m : PageMap). NextIs parts.pages.layout m scan does) (sym (keeps.pages tells)) (goes tells)))

    -- ---- it isn't made

    module _ (fault : StoreFault) where
      is_undone : (other : StoreFault) → fault ≡ other → ScanStepsSo told parts (parts_before scan.judging.stage mid) n looking scan (stepped.Undone other was)
          → ScanStepsSo told parts (parts_before scan.judging.stage mid) n looking scan (stepped.Undone fault was)
      is_undone other is so = subst (λ (f : StoreFault). ScanStepsSo told parts (parts_before scan.judging.stage mid) n looking scan (stepped.Undone f was)) (sym is) so

      -- the pages refuse it
      pub refused_by_pages : NotDamaged → IsHand scan.judging → (error : StoreError) → fault ≡ fault_of error
          → Refused told (IsDamagedThere told parts scan) parts.pages pages error → NamesAPage parts.pages.layout error
          → ScanStepsSo told parts (parts_before scan.judging.stage mid) n looking scan (stepped.Undone fault was)
      refused_by_pages law known error is refused names =
          let its : (o : Open) × (transaction_of parts.transactions.opens n ≡ Some o) = its_open told laws old n looking scan may.fit may.find may.fresh ready in
          is_undone (fault_of error) is
          (undone_so told laws old pages n looking scan may.fit may.find may.fresh its.0 its.1 keeps law may.shown known error refused names)

      -- the journal lacks room for what it may enter
      pub spent_there : MAX_ENTRIES < length parts.journal.entries + 1 → pages.failed ≡ None → fault ≡ stops.Spent (length parts.journal.entries)
          → ScanStepsSo told parts (parts_before scan.judging.stage mid) n looking scan (stepped.Undone fault was)
      spent_there full still is =
          let its_may = may_still told parts pages n looking scan keeps ready may in
          is_undone (stops.Spent (length parts.journal.entries)) is
          (behind told parts pages n looking scan keeps ready still (parts_before scan.judging.stage mid) (stepped.Undone (stops.Spent (length parts.journal.entries)) was)
          (is_spent told laws (parts_before scan.judging.stage mid) n looking scan its_may.fit its_may.find its_may.fresh still full (parts_before scan.judging.stage mid)
          (stepped.Undone (stops.Spent (length parts.journal.entries)) was) refl refl))

    -- ---- memory is short for it

    pub runs_short : (after : FindHand) → after ≡ scan → pages.failed ≡ None → RunsShort told parts mid n looking scan after
    runs_short after same still = record {
      same = same;
      may = may_still told parts pages n looking scan keeps ready may;
      ready = still;
      so = λ answer then so. behind told parts pages n looking scan keeps ready still then answer so;
    }

    -- ---- another call makes it

    module _ (after : FindHand) (same : after ≡ scan) where
      pub may_then : MayScan told mid n looking after
      may_then = subst (λ (x : FindHand). MayScan told mid n looking x) (sym same) (may_still told parts pages n looking scan keeps ready may)

      module _ (still : pages.failed ≡ None) (new : Parts D) (last : FindHand) where
        does_so : (answer : Scanned) → DoesScan told mid new n looking scan last answer → DoesScan told parts new n looking scan last answer
        does_so (scanned.Moved point) does = behind told parts pages n looking scan keeps ready still new (stepped.Moved point (scan_hand_of looking last)) does
        does_so (scanned.Finished point) does = λ answer then finishes. behind told parts pages n looking scan keeps ready still then answer (does answer then finishes)
        does_so scanned.Short does = record {
          same = does.same;
          may = does.may;
          ready = does.ready;
          so = λ answer then so. behind told parts pages n looking scan keeps ready still then answer (does.so answer then so);
        }
        does_so (scanned.Undone fault) does = (does.0, behind told parts pages n looking scan keeps ready still (parts_before scan.judging.stage new) (stepped.Undone fault was) does.1)

        pub made_behind : (answer : Scanned) → DoesScan told mid new n looking after last answer → DoesScan told parts new n looking scan last answer
        made_behind answer does = does_so answer (subst (λ (x : FindHand). DoesScan told mid new n looking x last answer) same does)
