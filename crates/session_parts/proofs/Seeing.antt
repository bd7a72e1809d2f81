-- what a statement in hand is at in a table, as others change rows and statuses
use Rattle.std.proofs.Common.{◌≡◌, ◌≢◌, ◌⊎◌, inl, inr, ℕ, zero, suc, ◌<◌, ◌==◌, Bool, true, false, ◌&&◌, ◌||◌, List, [], ◌∷◌, length, get_or, Option, None, Some, All, refl, sym, ap, subst, ◌∙◌, arith}
use Rattle.std.specs.Prelude.{IsTrue}
use Rattle.std.proofs.lemmas.List.Elements.{All-weaker}
use Rattle.std.proofs.lemmas.Bool.{eq-eqb}
use Rattle.std.proofs.lemmas.Option.{none-some, same_Some}
use Rattle.block_model.specs.declared.place.Spot.{Spot}
use Rattle.block_model.specs.declared.row.Row.{Row}
use Rattle.block_model.specs.declared.row.RowId.{RowId}
use Rattle.store_layout.specs.DiskLayout.{DiskLayout}
use Rattle.page_layout.specs.PageContents.{Slot}
use Rattle.page_layout.specs.RowBytes.{StoredRow}
use Rattle.heap_rows.specs.RowPlaces.{slot_at}
use Rattle.snapshot_core.specs.declared.statuses.Status.{Status}
use Rattle.snapshot_core.specs.Visibility.{has_done}
use Rattle.snapshot_core.specs.declared.sessions.Open.{Open}
use Rattle.tx_table.specs.TxState.{TxState}
use Rattle.transactions.specs.GivenStatuses.{given_status}
use Rattle.coverage.specs.Table.{Resting, Scans, TableScan, Task}
use Rattle.coverage.specs.TableSteps.{SeesPlace}
use Rattle.script_semantics.specs.IndexTuples.{index_at}
use Rattle.script_semantics.specs.ShownRows.{row_in}
use Rattle.bitmap_scan.specs.declared.stage.Stage.{Stage}
use Rattle.bitmap_scan.specs.declared.stage.Stage.TheVariants as stages
use Rattle.bitmap_scan.specs.Finds.{FindHand, Sight, is_found, scanning, sees_stored}
use Rattle.bitmap_scan.specs.ScanHands.{ScanHand}
use Rattle.bitmap_scan.specs.SeenRows.{SeesLater}
use Rattle.bitmap_scan.specs.TableScans.{Beside, table_scan, task_of}
use Rattle.bitmap_scan.proofs.Remembered.{stands_later}
use Rattle.bitmap_scan.proofs.Seen.{stays_seen}
use Rattle.session_parts.specs.SeenBefore.{SawRows}
use Rattle.session_parts.proofs.SeenBefore.{put_still, undeleted_still}
use Rattle.session_parts.specs.declared.hand.Hand.{Hand}
use Rattle.session_parts.specs.declared.hand.Hand.TheVariants as hands
use Rattle.session_parts.specs.declared.hand.Hit.{Hit}
use Rattle.session_parts.specs.declared.hand.Marking.{Marking}
use Rattle.session_parts.specs.Hands.{hits_left}
use Rattle.session_parts.specs.HandsInTables.{InItsTable, IsMarkingAt, IsMarkingBy, IsScanAt, IsScanBy, IsTaskOf, sight_of, table_in}
use Rattle.session_parts.specs.Leaving.{LacksDeleters, SeenRowsStay, SeesSlots}

-- each row that a scan's session sees stands in a slot
abbrev pub SeesStanding : List (List Slot) → Task → Type 0
SeesStanding blocks task = (scan : TableScan) (b k : ℕ) → task ≡ Scans scan → IsTrue (scan.sees b k) → slot_at blocks (record { block = b; slot = k }) ≢ None

-- and what it found, its session sees
pub record ScansWell (blocks : List (List Slot)) (task : Task) : Type 0 where
  pub standing : SeesStanding blocks task
  pub finds : (scan : TableScan) (b k : ℕ) → task ≡ Scans scan → IsTrue (scan.found b k) → IsTrue (scan.sees b k)

-- a scan at this stage has begun
abbrev IsBegun : Stage → Type 0
IsBegun stage = (layout : DiskLayout) (hand : ScanHand) (beside : Beside) → task_of layout stage hand beside ≡ Scans (table_scan layout hand beside)

begun_or_not : (stage : Stage) → (stage ≡ stages.Extent) ⊎ IsBegun stage
begun_or_not stages.Extent = inl refl
begun_or_not (stages.Map at range) = inr (λ layout hand beside. refl)
begun_or_not (stages.Tuple at range spot) = inr (λ layout hand beside. refl)
begun_or_not stages.Judged = inr (λ layout hand beside. refl)

-- what is found stands among the places found
or_right : (a b : Bool) → IsTrue b → IsTrue (a || b)
or_right true b h = refl
or_right false b h = h

found_at : (found : List (Row × Spot)) (k : ℕ) (d : Row × Spot) → k < length found → IsTrue (is_found found (get_or found k d).1.block (get_or found k d).1.slot)
found_at [] k d below = absurd (omega arith)
found_at (x ∷ found) zero d below = λ i. (eq-eqb x.1.block x.1.block refl i && eq-eqb x.1.slot x.1.slot refl i) || is_found found x.1.block x.1.slot
found_at (x ∷ found) (suc k) d below = or_right ((x.1.block == (get_or found k d).1.block) && (x.1.slot == (get_or found k d).1.slot))
    (is_found found (get_or found k d).1.block (get_or found k d).1.slot) (found_at found k d (omega arith))

module _ (sight later : Sight) (blocks now : List (List Slot)) (task : Task) (lasts : SeesLater sight later) (rows : SeenRowsStay task blocks now) (slots : SeesSlots sight blocks now)
    (well : ScansWell blocks task) where
  -- a row is seen later as it was
  seen_later : (row : StoredRow) → sees_stored later row ≡ sees_stored sight row
  seen_later row = stays_seen sight later lasts row row (record { id = refl; deleter = inl refl })

  found_stands : (table : ℕ) (f : Row × Spot) → SeesPlace f.1.block f.1.slot task → row_in table (slot_at blocks f.1) ≡ Some f.0 → row_in table (slot_at now f.1) ≡ Some f.0
  found_stands table f seen is = by_slot (slot_at blocks f.1) refl is
    where
      by_slot : (slot : Slot) → slot_at blocks f.1 ≡ slot → row_in table slot ≡ Some f.0 → row_in table (slot_at now f.1) ≡ Some f.0
      by_slot None there is = absurd (none-some f.0 is)
      by_slot (Some row) there is =
          let stays = rows f.1 row seen there in
          ap (row_in table) stays.1 ∙ (λ i. Some (record { table = table; id = stays.2 i; values = stays.3 i })) ∙ is

  not_true : (b : Bool) → (IsTrue b → ⊥) → b ≡ false
  not_true true h = absurd (h refl)
  not_true false h = refl

  module _ (layout : DiskLayout) (deletes : Bool) (hand : FindHand) (at : IsScanAt layout blocks sight deletes hand task) where
    abbrev scan : TableScan
    scan = table_scan layout hand.judging (scanning at.sees at.judged deletes hand)

    is_scan : task ≡ Scans scan
    is_scan = elim (begun_or_not hand.judging.stage) [
      | inl is ↦ absurd (at.begun is)
      | inr begun ↦ at.task_is ∙ begun layout hand.judging (scanning at.sees at.judged deletes hand)
    ]

    stands_then : All (λ (f : Row × Spot). row_in hand.judging.query.table (slot_at now f.1) ≡ Some f.0) hand.found
    stands_then = λ k d below.
        let f : Row × Spot = get_or hand.found k d in
        let seen : IsTrue (at.sees f.1.block f.1.slot) = well.finds scan f.1.block f.1.slot is_scan (found_at hand.found k d below) in
        found_stands hand.judging.query.table f (subst (SeesPlace f.1.block f.1.slot) (sym is_scan) seen) (at.stand k d below)

    pub scan_goes_on : IsScanAt layout now later deletes hand task
    scan_goes_on = record {
      begun = at.begun;
      sees = at.sees;
      judged = at.judged;
      task_is = at.task_is;
      now = λ b k row there. elim (slots (record { block = b; slot = k }) row there) [
        | inl stays ↦ at.now b k stays.0 stays.1 ∙ sym (seen_later row ∙ stays.2)
        | inr came ↦ not_true (at.sees b k) (λ (seen : IsTrue (at.sees b k)). well.standing scan b k is_scan seen came.0) ∙ sym (seen_later row ∙ came.1)
      ];
      stand = stands_then;
      remembers = stands_later sight later lasts hand.last at.remembers;
    }

-- a delete's marks go on where the rows that it saw stay, and what its transaction saw it saw still
module _ (tx then : TxState) (stored later : List Status) (o : Open) (blocks now : List (List Slot)) (marking : Marking) (task : Task) (lasts : SeesLater (sight_of tx stored o) (sight_of then later o))
    (lacks : LacksDeleters (sight_of tx stored o) blocks now) (rows : SeenRowsStay task blocks now) (at : IsMarkingAt tx.first stored o blocks marking task) where
  -- what stands in a place that its scan saw is the row that stood there
  abbrev StoodThere : Spot → StoredRow → Type 0
  StoodThere x row = (was : StoredRow) × (slot_at blocks x ≡ Some was) × (was.id ≡ row.id)

  stood_there : (x : Spot) (row : StoredRow) → slot_at now x ≡ Some row → IsTrue (at.scan.sees x.block x.slot) → StoodThere x row
  stood_there x row there sees = by_slot (slot_at blocks x) refl
    where
      by_slot : (slot : Slot) → slot_at blocks x ≡ slot → StoodThere x row
      by_slot None is = absurd (at.standing x sees is)
      by_slot (Some was) is =
          let stays = rows x was (subst (SeesPlace x.block x.slot) (sym at.task_is) sees) is in
          let same : stays.0 ≡ row = same_Some stays.0 row (sym stays.1 ∙ there) in
          (was, is, sym stays.2 ∙ ap (λ (r : StoredRow). r.id) same)

  standing_then : (x : Spot) → IsTrue (at.scan.sees x.block x.slot) → slot_at now x ≢ None
  standing_then x sees none = by_slot (slot_at blocks x) refl
    where
      by_slot : (slot : Slot) → slot_at blocks x ≡ slot → ⊥
      by_slot None is = at.standing x sees is
      by_slot (Some was) is =
          let stays = rows x was (subst (SeesPlace x.block x.slot) (sym at.task_is) sees) is in
          none-some stays.0 (sym none ∙ stays.1)

  saw_then : SawRows then.first later o at.scan.sees now
  saw_then x row there sees =
      let was = stood_there x row there sees in
      let before = at.saw x was.0 was.1 sees in
      let old : ℕ → Status = given_status tx.first stored in
      let new : ℕ → Status = given_status then.first later in
      record {
        put = subst (λ (id : RowId). has_done o.snapshot o.t id.t (new id.t) ≡ true) was.2 (put_still o old new lasts.ended was.0.id.t before.put);
        undeleted = undeleted_still o old new lasts.ended row.deleter (lacks x was.0 row was.1 there before.undeleted);
      }

  marks_go_on : IsMarkingAt then.first later o now marking task
  marks_go_on = record {
    scan = at.scan;
    task_is = at.task_is;
    stand = All-weaker (λ (h : Hit). (row : StoredRow) × (slot_at blocks h.spot ≡ Some row) × (row.id ≡ h.id) × IsTrue (at.scan.sees h.spot.block h.spot.slot))
        (λ (h : Hit). (row : StoredRow) × (slot_at now h.spot ≡ Some row) × (row.id ≡ h.id) × IsTrue (at.scan.sees h.spot.block h.spot.slot))
        (λ h stood.
        let stays = rows h.spot stood.0 (subst (SeesPlace h.spot.block h.spot.slot) (sym at.task_is) stood.3) stood.1 in
        (stays.0, stays.1, stays.2 ∙ stood.2, stood.3)) (hits_left marking) at.stand;
    standing = standing_then;
    saw = saw_then;
  }

-- what holds in its own table may change
in_its_table : (own table : ℕ) (Here There : Type 0) (task : Task) → (Here → There) → InItsTable own table Here task → InItsTable own table There task
in_its_table own table Here There task leads at = (λ is. leads (at.0 is), at.1)

module _ (layout : DiskLayout) (table : ℕ) (blocks now : List (List Slot)) (tx then : TxState) (stored later : List Status) (task : Task) (rows : SeenRowsStay task blocks now) (well : ScansWell blocks task) where
  -- an open transaction sees on
  abbrev pub SeesOn : Option Open → Type 0
  SeesOn transaction = (o : Open) → transaction ≡ Some o → SeesLater (sight_of tx stored o) (sight_of then later o) × SeesSlots (sight_of tx stored o) blocks now × LacksDeleters (sight_of tx stored o) blocks now

  scan_by : (transaction : Option Open) (deletes : Bool) (hand : FindHand) → SeesOn transaction → IsScanBy layout blocks tx stored transaction deletes hand task → IsScanBy layout now then later transaction deletes hand task
  scan_by None deletes hand on at = at
  scan_by (Some o) deletes hand on at = scan_goes_on (sight_of tx stored o) (sight_of then later o) blocks now task (on o refl).0 rows (on o refl).1 well layout deletes hand at

  marks_by : (transaction : Option Open) (marking : Marking) → SeesOn transaction → IsMarkingBy tx stored transaction blocks marking task → IsMarkingBy then later transaction now marking task
  marks_by None marking on at = at
  marks_by (Some o) marking on at = marks_go_on tx then stored later o blocks now marking task (on o refl).0 (on o refl).2 rows at

  pub task_goes_on : (transaction : Option Open) (hand : Option Hand) → SeesOn transaction → IsTaskOf layout table blocks tx stored transaction hand task → IsTaskOf layout table now then later transaction hand task
  task_goes_on transaction None on at = at
  task_goes_on transaction (Some (hands.Begins numbers)) on at = at
  task_goes_on transaction (Some hands.Commits) on at = at
  task_goes_on transaction (Some hands.RollsBack) on at = at
  task_goes_on transaction (Some (hands.Puts number values)) on at = at
  task_goes_on transaction (Some (hands.Inserts insert)) on at = at
  task_goes_on transaction (Some (hands.Selecting query)) on at = at
  task_goes_on transaction (Some (hands.Selects scan)) on at = in_its_table scan.judging.query.table table (IsScanBy layout blocks tx stored transaction false scan task) (IsScanBy layout now then later transaction false scan task) task (scan_by transaction false scan on) at
  task_goes_on transaction (Some (hands.Deleting query)) on at = at
  task_goes_on transaction (Some (hands.Deletes scan)) on at = in_its_table scan.judging.query.table table (IsScanBy layout blocks tx stored transaction true scan task) (IsScanBy layout now then later transaction true scan task) task (scan_by transaction true scan on) at
  task_goes_on transaction (Some (hands.Marks marking)) on at = in_its_table marking.query.table table (IsMarkingBy tx stored transaction blocks marking task) (IsMarkingBy then later transaction now marking task) task (marks_by transaction marking on) at
  task_goes_on transaction (Some (hands.Explains explain)) on at = at
  task_goes_on transaction (Some (hands.Summarises a)) on at = at
  task_goes_on transaction (Some (hands.Desummarises a)) on at = at
  task_goes_on transaction (Some (hands.Cleans c)) on at = at
  task_goes_on transaction (Some (hands.Completes c)) on at = at
  task_goes_on transaction (Some hands.Working) on at = at
  task_goes_on transaction (Some (hands.Works r)) on at = at

-- ---- in another table

-- a table that isn't its own
other_table : (own table : ℕ) → Some own ≢ Some table → own ≢ table
other_table own table apart is = apart (ap Some is)

rests_there : (own table : ℕ) (Here : Type 0) → Some own ≢ Some table → InItsTable own table Here Resting
rests_there own table Here apart = (λ is. absurd (apart (ap Some is)), λ away. refl)

module _ (layout : DiskLayout) (table : ℕ) (blocks : List (List Slot)) (tx : TxState) (stored : List Status) (transaction : Option Open) where
  pub rests_elsewhere : (hand : Option Hand) → table_in layout hand ≢ Some table → IsTaskOf layout table blocks tx stored transaction hand Resting
  rests_elsewhere None apart = refl
  rests_elsewhere (Some (hands.Begins numbers)) apart = refl
  rests_elsewhere (Some hands.Commits) apart = refl
  rests_elsewhere (Some hands.RollsBack) apart = refl
  rests_elsewhere (Some (hands.Puts number values)) apart = refl
  rests_elsewhere (Some (hands.Inserts insert)) apart = rests_there insert.row.table table _ apart
  rests_elsewhere (Some (hands.Selecting query)) apart = refl
  rests_elsewhere (Some (hands.Selects scan)) apart = rests_there scan.judging.query.table table _ apart
  rests_elsewhere (Some (hands.Deleting query)) apart = refl
  rests_elsewhere (Some (hands.Deletes scan)) apart = rests_there scan.judging.query.table table _ apart
  rests_elsewhere (Some (hands.Marks marking)) apart = rests_there marking.query.table table _ apart
  rests_elsewhere (Some (hands.Explains explain)) apart = rests_there explain.judging.query.table table _ apart
  rests_elsewhere (Some (hands.Summarises a)) apart = rests_there (index_at layout a.index).table table _ apart
  rests_elsewhere (Some (hands.Desummarises a)) apart = rests_there (index_at layout a.index).table table _ apart
  rests_elsewhere (Some (hands.Cleans c)) apart = rests_there c.vacuum.table table _ apart
  rests_elsewhere (Some (hands.Completes c)) apart = rests_there c.table table _ apart
  rests_elsewhere (Some hands.Working) apart = refl
  rests_elsewhere (Some (hands.Works r)) apart = rests_there (index_at layout r.summarise.index).table table _ apart

  pub task_elsewhere : (hand : Option Hand) (task : Task) → table_in layout hand ≢ Some table → IsTaskOf layout table blocks tx stored transaction hand task → task ≡ Resting
  task_elsewhere None task apart at = at
  task_elsewhere (Some (hands.Begins numbers)) task apart at = at
  task_elsewhere (Some hands.Commits) task apart at = at
  task_elsewhere (Some hands.RollsBack) task apart at = at
  task_elsewhere (Some (hands.Puts number values)) task apart at = at
  task_elsewhere (Some (hands.Inserts insert)) task apart at = at.1 (other_table insert.row.table table apart)
  task_elsewhere (Some (hands.Selecting query)) task apart at = at
  task_elsewhere (Some (hands.Selects scan)) task apart at = at.1 (other_table scan.judging.query.table table apart)
  task_elsewhere (Some (hands.Deleting query)) task apart at = at
  task_elsewhere (Some (hands.Deletes scan)) task apart at = at.1 (other_table scan.judging.query.table table apart)
  task_elsewhere (Some (hands.Marks marking)) task apart at = at.1 (other_table marking.query.table table apart)
  task_elsewhere (Some (hands.Explains explain)) task apart at = at.1 (other_table explain.judging.query.table table apart)
  task_elsewhere (Some (hands.Summarises a)) task apart at = at.1 (other_table (index_at layout a.index).table table apart)
  task_elsewhere (Some (hands.Desummarises a)) task apart at = at.1 (other_table (index_at layout a.index).table table apart)
  task_elsewhere (Some (hands.Cleans c)) task apart at = at.1 (other_table c.vacuum.table table apart)
  task_elsewhere (Some (hands.Completes c)) task apart at = at.1 (other_table c.table table apart)
  task_elsewhere (Some hands.Working) task apart at = at
  task_elsewhere (Some (hands.Works r)) task apart at = at.1 (other_table (index_at layout r.summarise.index).table table apart)
