-- rows that are dead to all by snapshots and statuses, and rows that are dead by the journal
use Rattle.std.proofs.Common.{◌≡◌, ◌≢◌, inl, inr, ℕ, ◌<◌, ◌≤◌, Bool, true, false, not, cond, eqb, ◌&&◌, ◌||◌, List, [], ◌++◌, length, Option, None, Some, refl, sym, ap, subst, ◌∙◌, arith}
use Rattle.std.specs.Prelude.{IsTrue, ◌↔◌}
use Rattle.std.specs.List.{list_all}
use Rattle.std.specs.Option.{is_some}
use Rattle.std.specs.FinMap as map
use Rattle.std.specs.FinSet as set
use Rattle.std.proofs.lemmas.Bool.{and_from, and_parts, and_right, cases_lt, eqb-true, false_from_ne_true, false≢true, ne_eqb, not_from_false, not_from_true, or_cases, or_left, or_right, true_from_ne_false, true≢false}
use Rattle.std.proofs.lemmas.Map.Entries.{option_filter}
use Rattle.block_model.specs.declared.place.Spot.{Spot}
use Rattle.block_model.specs.declared.request.Entry.{Entry}
use Rattle.block_model.specs.declared.row.Row.{Row}
use Rattle.block_model.specs.declared.row.RowId.{RowId}
use Rattle.block_model.specs.DatabaseState.{DatabaseState, OpenTransaction}
use Rattle.block_model.specs.NumberMaps.{none_Some}
use Rattle.block_model.specs.RequestEffect.{is_own}
use Rattle.block_model.specs.SerialRun.{serial_run, serial_run-append}
use Rattle.page_layout.specs.PageContents.{Slot}
use Rattle.page_layout.specs.RowBytes.{StoredRow}
use Rattle.heap_rows.specs.HeapBlocks.{HasBlocks}
use Rattle.heap_rows.specs.RowPlaces.{slot_at}
use Rattle.snapshot_core.specs.Dead.{is_deleted_for_all, is_rolled_back}
use Rattle.snapshot_core.specs.declared.snapshots.Snapshot.{Snapshot}
use Rattle.snapshot_core.specs.declared.statuses.Status.{Status}
use Rattle.snapshot_core.specs.declared.statuses.Status.TheVariants.{Begun, Committed, RolledBack, Unused}
use Rattle.snapshot_core.specs.Visibility.{had_ended, has_done, in_snapshot, is_committed}
use Rattle.snapshot_core.specs.declared.table.Version.{Version}
use Rattle.snapshot_core.specs.declared.sessions.Open.{Open}
use Rattle.snapshot_core.specs.StoredVersions.{IsKnown, stored, transaction_of}
use Rattle.snapshot_core.specs.VisibleState.{is_marked, status_of}
use Rattle.snapshot_core.proofs.Stored.{contains-ids_of}
use Rattle.transactions.specs.ShownVersions.{version_of}
use Rattle.transactions.specs.GivenStatuses.{given_status, given_statuses}
use Rattle.transactions.specs.Sessions.{HaveTransactions, IsCopyOf}
use Rattle.transactions.specs.ShowsDatabase.{ShowsDatabase}
use Rattle.transactions.specs.StoredRows.{StandsAt, sees_row}
use Rattle.transactions.specs.TransactionsState.{TransactionsState}
use Rattle.transactions.proofs.Copies.{copy_is, row_is_of, seen_in_copy, sessions_shown}
use Rattle.transactions.proofs.Given.{given_none, status_given}
use Rattle.transactions.proofs.Marks.{row_stored}
use Rattle.transactions.proofs.Shown.{open_one, versions_on_pages, whole}
use Rattle.index_steps.specs.ShownRows.{row_in, rows_in}
use Rattle.vacuum_core.specs.DeadRows.{DropsTheDead, Living, is_dead, living}
use Rattle.vacuum_core.specs.TableSteps.{has_gone}
use Rattle.script_semantics.specs.DeadRows.{Deleted, HasEnded, IsDead, IsOpen, RolledBack as ByRollback}
use Rattle.script_semantics.specs.Place.{Place, database_at}
use Rattle.script_semantics.specs.Views.{AllTook, view_front}
use Rattle.script_semantics.specs.Copies.{CopiesAreOfTheirFronts}
use Rattle.script_semantics.specs.GoneRows.{IsGone}
use Rattle.script_semantics.specs.Numbers.{NumbersRise}
use Rattle.script_semantics.specs.OldestFront.{DeadByOldestFront, IsOldestFront, OfOldest, OldestFrontStands, Whole}
use Rattle.script_semantics.specs.UnseenRows.{DeadRowsAreUnseen, IsUnseen}
use Rattle.session_parts.specs.ShowsPlace.{IsPlaceOf}
use Rattle.session_parts.specs.StoreStates.{ShownStore}
use Rattle.session_maintenance.specs.DeadToAll.{DeadToAllIsDead, DropsTheDeadByJournal, OldestSpeaksForAll, living_of, oldest_snapshots, snapshots_of}
use Rattle.session_parts.specs.FrontsStand.{FrontsStand}
use Rattle.script_semantics.proofs.Fronts.{all_took, view_behind}
use Rattle.session_maintenance.proofs.Oldest.{all_snapshots, each_snapshot, had_ended_then, of_oldest, oldest_among, oldest_is_below, oldest_is_open}
use Rattle.session_parts.proofs.Rows.{row_is_version, version_is_row}
use Rattle.session_parts.proofs.Snapshots.{has_ended, is_of_open, is_open}

-- ---- statuses

rolled_back : (e : Status) → is_rolled_back e ≡ true → is_committed e ≡ false
rolled_back Unused is = absurd (false≢true is)
rolled_back Begun is = absurd (false≢true is)
rolled_back Committed is = absurd (false≢true is)
rolled_back RolledBack is = refl

rolled_not_begun : (e : Status) → is_rolled_back e ≡ true → e ≢ Begun
rolled_not_begun e is begun = false≢true (sym (ap is_rolled_back begun) ∙ is)

committed_not_begun : (e : Status) → is_committed e ≡ true → e ≢ Begun
committed_not_begun e is begun = false≢true (sym (ap is_committed begun) ∙ is)

-- one that has ended has committed or was rolled back
neither : (e : Status) → e ≢ Unused → e ≢ Begun → is_committed e ≡ false → is_rolled_back e ≡ true
neither Unused used ended uncommitted = absurd (used refl)
neither Begun used ended uncommitted = absurd (ended refl)
neither Committed used ended uncommitted = absurd (true≢false uncommitted)
neither RolledBack used ended uncommitted = refl

-- ---- a row of a table

module _ (s : ShownStore) (p : Place) (shown : IsPlaceOf s p) (table : ℕ) (spot : Spot) (row : StoredRow) (below : table < length s.layout.schema.tables)
    (there : StandsAt s.layout s.pages table spot row) where
  abbrev t : TransactionsState
  t = s.transactions

  abbrev db : DatabaseState
  db = database_at p

  abbrev shows : ShowsDatabase s.layout s.pages t db
  shows = shown.database

  abbrev stands : FrontsStand s.layout s.pages t shows.stored p
  stands = shown.fronts

  abbrev have : HaveTransactions t db
  have = sessions_shown s.layout s.pages t db shows

  abbrev gs : List Status
  gs = given_statuses t.tx shows.stored

  abbrev status : ℕ → Status
  status u = given_status t.tx.first shows.stored u

  abbrev put : Status
  put = status row.id.t

  abbrev gone : Status
  gone = status row.deleter

  abbrev version : Version
  version = version_of table row

  there_stored : stored (versions_on_pages s.layout s.pages) row.id ≡ Some version
  there_stored = row_stored shows table spot row below there

  known : IsKnown gs version
  known = (whole shows).known row.id version there_stored

  used : put ≢ Unused
  used = (shows.used row.id version there_stored).put

  as_given : (u : ℕ) → status_of gs u ≡ status u
  as_given u = status_given t.tx shows.stored u shows.next

  put_below : row.id.t < db.next
  put_below = let low = (row_is_of s.layout s.pages t db shows.stored table spot row shows shows.has below there).put in let next = have.next in omega (arith, low, next)

  open_has_begun : (u : ℕ) → IsOpen db u → status u ≡ Begun
  open_has_begun u under_way =
      let o = is_of_open t db have u under_way in
      ap status o.3 ∙ (open_one shows o.0 o.1 o.2).given

  ended_not_begun : (u : ℕ) → HasEnded db u → status u ≢ Begun
  ended_not_begun u ended begun = (whole shows).begun u (λ n o was same. ended.1 (is_open t db have u (n, o, was, sym same))) (as_given u ∙ begun)

  -- a deleter that has committed is one, and who put the row is under way no more
  deleted_by_one : is_committed gone ≡ true → row.deleter ≢ 0
  deleted_by_one is none = false≢true (sym (ap is_committed (given_none t.tx.first shows.stored row.deleter none)) ∙ is)

  put_not_begun : is_committed gone ≡ true → put ≢ Begun
  put_not_begun is begun =
      let own : row.deleter ≡ row.id.t = known.own (as_given row.id.t ∙ begun) (deleted_by_one is) in
      committed_not_begun gone is (ap status own ∙ begun)

  -- the table has the row exactly where a commit put it, and none deleted it
  absent_now : is_committed gone ≡ true → map.contains_key db.table row.id ≡ false
  absent_now is = false_from_ne_true (map.contains_key db.table row.id) (λ has.
      let v = row_is_version shows row.id has in
      let one : Some v.0 ≡ Some version = sym v.1 ∙ there_stored in
      let same : v.0 ≡ version = cc in
      let undeleted = (and_parts (is_committed (status_of gs v.0.row.id.t)) (not (is_committed (status_of gs v.0.deleter))) v.2).1 in
      false≢true (sym (not_from_true (is_committed (status_of gs row.deleter)) (ap is_committed (as_given row.deleter) ∙ is)) ∙ ap (λ (v : Version). not (is_committed (status_of gs v.deleter))) (sym same) ∙ undeleted))

  deleted_since : is_committed put ≡ true → map.contains_key db.table row.id ≡ false → is_committed gone ≡ true
  deleted_since is absent = true_from_ne_false (is_committed gone) (λ undeleted. true≢false (sym (version_is_row shows row.id version there_stored
      (and_from (is_committed (status_of gs row.id.t)) (not (is_committed (status_of gs row.deleter))) (ap is_committed (as_given row.id.t) ∙ is) (not_from_false (is_committed (status_of gs row.deleter)) (ap is_committed (as_given row.deleter) ∙ undeleted)))) ∙ absent))

  -- ---- rolled back

  module _ (numbers : NumbersRise) where
    -- before the opening, or since it
    rolled_early : is_rolled_back put ≡ true → row.id.t < p.opening.next → IsDead p row.id
    rolled_early is low = Deleted [] p.journal refl (low, λ under_way. absurd (let none : None ≡ Some under_way.1 = sym (stands.none_open under_way.0) ∙ under_way.2 in cc))
        (false_from_ne_true (map.contains_key p.opening.table row.id) (λ has. false≢true (sym (rolled_back put is) ∙ stands.opening row.id has)))
        (all_took p.opening p.journal stands.none_open)

    rolled_late : is_rolled_back put ≡ true → p.opening.next ≤ row.id.t → IsDead p row.id
    rolled_late is since = ByRollback since (put_below, λ under_way. rolled_not_begun put is (open_has_begun row.id.t under_way))
        (λ commit. false≢true (sym (rolled_back put is) ∙ (stands.commits row.id.t since).1 commit))

    rolled_is_dead : is_rolled_back put ≡ true → IsDead p row.id
    rolled_is_dead is = elim (cases_lt row.id.t p.opening.next) [ inl low ↦ rolled_early is low | inr since ↦ rolled_late is since ]

  -- ---- deleted for all

  module _ (is : is_committed gone ≡ true) (so : list_all (λ sn. in_snapshot sn row.deleter gone) (snapshots_of t.opens) ≡ true) where
    other_deleter : (n : ℕ) (o : Open) → transaction_of t.opens n ≡ Some o → row.deleter ≢ o.t
    other_deleter n o was same = committed_not_begun gone is (ap status same ∙ (open_one shows n o was).given)

    module _ (n : ℕ) (x : OpenTransaction) (found : map.get db.sessions n ≡ Some x) where
      abbrev opened : (o : Open) × (transaction_of t.opens n ≡ Some o) × IsCopyOf o x
      opened = have.opened n x found

      had_deleter : had_ended opened.0.snapshot row.deleter ≡ true
      had_deleter = (and_parts (is_committed gone) (had_ended opened.0.snapshot row.deleter) (each_snapshot t.opens (λ sn. in_snapshot sn row.deleter gone) so n opened.0 opened.1)).1

      had_put : had_ended opened.0.snapshot row.id.t ≡ true
      had_put = stands.deleters table spot row below there (deleted_by_one is) n opened.0 opened.1 had_deleter

      deletion_done : has_done opened.0.snapshot opened.0.t row.deleter gone ≡ true
      deletion_done = or_right (eqb row.deleter opened.0.t) (in_snapshot opened.0.snapshot row.deleter gone) (and_from (is_committed gone) (had_ended opened.0.snapshot row.deleter) is had_deleter)

      not_in_view : map.contains_key x.view row.id ≡ false
      not_in_view = (seen_in_copy s.layout s.pages t db shows.stored n table opened.0 x spot row shows shows.has opened.1 found below there).seen
          ∙ ap (λ b. has_done opened.0.snapshot opened.0.t row.id.t put && not b) deletion_done ∙ and_right (has_done opened.0.snapshot opened.0.t row.id.t put) false refl

      not_in_marks : set.contains x.marks row.id ≡ false
      not_in_marks = ap (λ (x : OpenTransaction). set.contains x.marks row.id) (copy_is shows n opened.0 x opened.1 found)
          ∙ contains-ids_of (is_marked opened.0) (versions_on_pages s.layout s.pages) row.id (whole shows).ids_differ
          ∙ ap (λ (o : Option Version). is_some (option_filter (is_marked opened.0) o)) there_stored
          ∙ ap (λ b. is_some (cond (b && not (eqb row.id.t opened.0.t)) (Some version) None)) (ne_eqb row.deleter opened.0.t (other_deleter n opened.0 opened.1))

      -- so the table where its view was taken lacks the row
      gone_at_front : CopiesAreOfTheirFronts → IsGone (serial_run p.opening (view_front n p.journal)) row.id
      gone_at_front copies = record {
        ended = (has_ended opened.0.snapshot (serial_run p.opening (view_front n p.journal)) (stands.snapshots n opened.0 opened.1) row.id.t).0 had_put;
        absent = copies.copy p.opening p.journal stands.none_open stands.earlier shown.legal n x found row.id ∙ ap (λ b. (b && not (is_own x row.id)) || set.contains x.marks row.id) not_in_view ∙ not_in_marks;
      }

    gone_now : IsGone db row.id
    gone_now = record { ended = (put_below, λ under_way. put_not_begun is (open_has_begun row.id.t under_way)); absent = absent_now is }

    gone_at : CopiesAreOfTheirFronts → (before : List Entry) → IsOldestFront p.opening p.journal before → IsGone (serial_run p.opening before) row.id
    gone_at copies before (Whole none same) = subst (λ (l : List Entry). IsGone (serial_run p.opening l) row.id) (sym same) gone_now
    gone_at copies before (OfOldest n x found same _ _ _) = subst (λ (l : List Entry). IsGone (serial_run p.opening l) row.id) (sym same) (gone_at_front n x found copies)

    deleted_is_dead : CopiesAreOfTheirFronts → OldestFrontStands → DeadByOldestFront → IsDead p row.id
    deleted_is_dead copies oldest by_front =
        let front = oldest p.opening p.journal stands.none_open in
        (by_front p front.0 front.1 row.id).1 (inr (gone_at copies front.0 front.1))

  -- ---- dead by the journal

  put_rolled : HasEnded db row.id.t → is_committed put ≡ false → is_rolled_back put ≡ true
  put_rolled ended uncommitted = neither put used (ended_not_begun row.id.t ended) uncommitted

  module _ (numbers : NumbersRise) (before behind : List Entry) (split : before ++ behind ≡ p.journal) (ended : HasEnded (serial_run p.opening before) row.id.t) (all : AllTook db behind) (unseen : IsUnseen db row.id) (committed : is_committed put ≡ true) where
    delete_is : is_committed gone ≡ true
    delete_is = deleted_since committed unseen.table

    module _ (n : ℕ) (o : Open) (was : transaction_of t.opens n ≡ Some o) where
      abbrev copy : (x : OpenTransaction) × (map.get db.sessions n ≡ Some x) × IsCopyOf o x
      copy = have.shown n o was

      front : view_front n p.journal ≡ before ++ view_front n behind
      front = ap (view_front n) (sym split) ∙ view_behind n before behind (all n copy.0 copy.1)

      put_had_ended : had_ended o.snapshot row.id.t ≡ true
      put_had_ended = (has_ended o.snapshot (serial_run p.opening (view_front n p.journal)) (stands.snapshots n o was) row.id.t).1
          (subst (λ (d : DatabaseState). HasEnded d row.id.t) (sym (serial_run-append p.opening before (view_front n behind)) ∙ ap (serial_run p.opening) (sym front)) (numbers.ended (serial_run p.opening before) (view_front n behind) row.id.t ended))

      put_done : has_done o.snapshot o.t row.id.t put ≡ true
      put_done = or_right (eqb row.id.t o.t) (in_snapshot o.snapshot row.id.t put) (and_from (is_committed put) (had_ended o.snapshot row.id.t) committed put_had_ended)

      not_seen : sees_row t.tx.first shows.stored o row ≡ false
      not_seen = sym (seen_in_copy s.layout s.pages t db shows.stored n table o copy.0 spot row shows shows.has was copy.1 below there).seen ∙ unseen.copies n copy.0 copy.1

      delete_done : has_done o.snapshot o.t row.deleter gone ≡ true
      delete_done = true_from_ne_false (has_done o.snapshot o.t row.deleter gone)
          (λ undone. true≢false (sym (and_from (has_done o.snapshot o.t row.id.t put) (not (has_done o.snapshot o.t row.deleter gone)) put_done (not_from_false (has_done o.snapshot o.t row.deleter gone) undone)) ∙ not_seen))

      had_delete : in_snapshot o.snapshot row.deleter gone ≡ true
      had_delete = elim (or_cases (eqb row.deleter o.t) (in_snapshot o.snapshot row.deleter gone) delete_done) [
        | inl own ↦ absurd (committed_not_begun gone delete_is (ap status (eqb-true row.deleter o.t own) ∙ (open_one shows n o was).given))
        | inr within ↦ within
      ]

    deleted_for_all : is_deleted_for_all (snapshots_of t.opens) row.deleter gone ≡ true
    deleted_for_all = and_from (is_committed gone) (list_all (λ sn. in_snapshot sn row.deleter gone) (snapshots_of t.opens)) delete_is
        (all_snapshots t.opens (λ sn. in_snapshot sn row.deleter gone) had_delete)

  -- ---- both

  abbrev rolled : Bool
  rolled = is_rolled_back put

  abbrev deleted : Bool
  deleted = is_deleted_for_all (snapshots_of t.opens) row.deleter gone

  abbrev deleted_for_oldest : Bool
  deleted_for_oldest = is_deleted_for_all (oldest_snapshots t.opens) row.deleter gone

  abbrev had : Snapshot → Bool
  had sn = in_snapshot sn row.deleter gone

  abbrev by_oldest : Living
  by_oldest = living (oldest_snapshots t.opens) t.tx.first shows.stored

  abbrev by_all : Living
  by_all = living_of t shows.stored

  pub dead_to_all_is_dead : NumbersRise → CopiesAreOfTheirFronts → OldestFrontStands → DeadByOldestFront → IsTrue (is_dead by_all row) → IsDead p row.id
  dead_to_all_is_dead numbers copies oldest by_front dead = elim (or_cases rolled deleted dead) [
    | inl back ↦ rolled_is_dead numbers back
    | inr for_all ↦ let parts = and_parts (is_committed gone) (list_all had (snapshots_of t.opens)) for_all in deleted_is_dead parts.0 parts.1 copies oldest by_front
  ]

  -- dead by the oldest view alone, and by all
  pub dead_to_all_by_oldest : IsTrue (is_dead by_all row) → IsTrue (is_dead by_oldest row)
  dead_to_all_by_oldest dead = elim (or_cases rolled deleted dead) [
    | inl back ↦ or_left rolled deleted_for_oldest back
    | inr for_all ↦
        let parts = and_parts (is_committed gone) (list_all had (snapshots_of t.opens)) for_all in
        or_right rolled deleted_for_oldest (and_from (is_committed gone) (list_all had (oldest_snapshots t.opens)) parts.0 (oldest_among t.opens had parts.1))
  ]

  pub dead_by_oldest_to_all : NumbersRise → IsTrue (is_dead by_oldest row) → IsTrue (is_dead by_all row)
  dead_by_oldest_to_all numbers dead = elim (or_cases rolled deleted_for_oldest dead) [
    | inl back ↦ or_left rolled deleted back
    | inr for_oldest ↦
        let parts = and_parts (is_committed gone) (list_all had (oldest_snapshots t.opens)) for_oldest in
        or_right rolled deleted (and_from (is_committed gone) (list_all had (snapshots_of t.opens)) parts.0 (all_snapshots t.opens had (λ n o was.
        let oldest = oldest_is_below t.opens n o was in
        let at = oldest_is_open t.opens oldest.0 oldest.1 in
        let has = (and_parts (is_committed gone) (had_ended oldest.0.snapshot row.deleter) (of_oldest t.opens had parts.1 oldest.0 oldest.1)).1 in
        and_from (is_committed gone) (had_ended o.snapshot row.deleter) parts.0 (had_ended_then numbers p.opening p.journal stands.none_open at.0 n oldest.0.snapshot o.snapshot
        (stands.snapshots at.0 oldest.0 at.1) (stands.snapshots n o was) oldest.2 row.deleter has))))
  ]

  by_delete : NumbersRise → (before behind : List Entry) → before ++ behind ≡ p.journal → HasEnded (serial_run p.opening before) row.id.t → AllTook db behind → IsUnseen db row.id
      → (committed : Bool) → is_committed put ≡ committed → (rolled || deleted) ≡ true
  by_delete numbers before behind split ended all unseen true is = or_right rolled deleted (deleted_for_all numbers before behind split ended all unseen is)
  by_delete numbers before behind split ended all unseen false is = or_left rolled deleted
      (put_rolled (subst (λ (d : DatabaseState). HasEnded d row.id.t) (sym (serial_run-append p.opening before behind) ∙ ap (serial_run p.opening) split) (numbers.ended (serial_run p.opening before) behind row.id.t ended)) is)

  by_journal : NumbersRise → IsUnseen db row.id → IsDead p row.id → (rolled || deleted) ≡ true
  by_journal numbers unseen (ByRollback since ended uncommitted) = or_left rolled deleted
      (put_rolled ended (false_from_ne_true (is_committed put) (λ is. uncommitted ((stands.commits row.id.t since).0 is))))
  by_journal numbers unseen (Deleted before behind split ended absent all) = by_delete numbers before behind split ended all unseen (is_committed put) refl

  pub dead_is_dead_to_all : NumbersRise → DeadRowsAreUnseen → IsDead p row.id → IsTrue (is_dead by_all row)
  dead_is_dead_to_all numbers unseen dead = by_journal numbers (unseen p stands.none_open stands.earlier shown.legal row.id dead) dead

-- what the journal says, as the law needs it
pub record JournalLaws : Type 0 where
  pub numbers : NumbersRise
  pub copies : CopiesAreOfTheirFronts
  pub oldest : OldestFrontStands
  pub by_front : DeadByOldestFront
  pub unseen : DeadRowsAreUnseen

pub dead_to_all : JournalLaws → DeadToAllIsDead
dead_to_all laws s p table spot row shown below there = (
  dead_to_all_is_dead s p shown table spot row below there laws.numbers laws.copies laws.oldest laws.by_front,
  dead_is_dead_to_all s p shown table spot row below there laws.numbers laws.unseen,
)

-- ---- the rows of a block that go

module _ (laws : JournalLaws) (s : ShownStore) (p : Place) (table block : ℕ) (blocks blocked : List (List Slot)) (shown : IsPlaceOf s p) (below : table < length s.layout.schema.tables)
    (has : HasBlocks s.layout s.pages table blocks) (drops : DropsTheDead (living_of s.transactions shown.database.stored) blocks blocked block) (k : ℕ) where
  abbrev x : Spot
  x = record { block = block; slot = k }

  abbrev row_of : StoredRow → Row
  row_of row = record { table = table; id = row.id; values = row.values }

  is_dead_by : (row : StoredRow) → slot_at blocks x ≡ Some row → IsTrue (is_dead (living_of s.transactions shown.database.stored) row) ↔ IsDead p row.id
  is_dead_by row there = dead_to_all laws s p table x row shown below (record { blocks = blocks; has = has; there = there })

  gone_is_dead : (before after : Slot) → slot_at blocks x ≡ before → slot_at blocked x ≡ after → IsTrue (has_gone (row_in table before) (row_in table after)) → (r : Row) × (row_in table before ≡ Some r) × IsDead p r.id
  gone_is_dead None after was is gone = absurd (false≢true gone)
  gone_is_dead (Some row) (Some now) was is gone = absurd (false≢true gone)
  gone_is_dead (Some row) None was is gone = (row_of row, refl, (is_dead_by row was).0 (drops.gone x row was is).1)

  dead_is_gone : (before after : Slot) → slot_at blocks x ≡ before → slot_at blocked x ≡ after → (r : Row) → row_in table before ≡ Some r → IsDead p r.id → IsTrue (has_gone (row_in table before) (row_in table after))
  dead_is_gone None after was is r there dead = absurd (none_Some r there)
  dead_is_gone (Some row) None was is r there dead = refl
  dead_is_gone (Some row) (Some now) was is r there dead =
      let same : row_of row ≡ r = cc in
      let free = drops.dead k row was ((is_dead_by row was).1 (subst (λ (id : RowId). IsDead p id) (ap (λ (r : Row). r.id) (sym same)) dead)) in
      absurd (none_Some now (sym free ∙ is))

  pub drops_dead : IsTrue (has_gone (rows_in table blocks block k) (rows_in table blocked block k)) ↔ ((r : Row) × (rows_in table blocks block k ≡ Some r) × IsDead p r.id)
  drops_dead = (
    λ gone. gone_is_dead (slot_at blocks x) (slot_at blocked x) refl refl gone,
    λ dead. dead_is_gone (slot_at blocks x) (slot_at blocked x) refl refl dead.0 dead.1 dead.2,
  )

pub drops_by_journal : JournalLaws → DropsTheDeadByJournal
drops_by_journal laws s p table block blocks blocked shown below has drops k = drops_dead laws s p table block blocks blocked shown below has drops k

-- ---- the oldest speaks for all

module _ (numbers : NumbersRise) (s : ShownStore) (p : Place) (table block : ℕ) (blocks blocked : List (List Slot)) (shown : IsPlaceOf s p) (below : table < length s.layout.schema.tables)
    (has : HasBlocks s.layout s.pages table blocks) where
  by_one_by_all : (x : Spot) (row : StoredRow) → slot_at blocks x ≡ Some row
      → IsTrue (is_dead (living (oldest_snapshots s.transactions.opens) s.transactions.tx.first shown.database.stored) row) ↔ IsTrue (is_dead (living_of s.transactions shown.database.stored) row)
  by_one_by_all x row at =
      let there : StandsAt s.layout s.pages table x row = record { blocks = blocks; has = has; there = at } in (
        dead_by_oldest_to_all s p shown table x row below there numbers,
        dead_to_all_by_oldest s p shown table x row below there,
      )

  pub drops_for_all : DropsTheDead (living (oldest_snapshots s.transactions.opens) s.transactions.tx.first shown.database.stored) blocks blocked block → DropsTheDead (living_of s.transactions shown.database.stored) blocks blocked block
  drops_for_all drops = record {
    dead = λ k row at dead. drops.dead k row at ((by_one_by_all (record { block = block; slot = k }) row at).1 dead);
    gone = λ x row at left. let went = drops.gone x row at left in (went.0, (by_one_by_all x row at).0 went.1);
  }

pub oldest_for_all : NumbersRise → OldestSpeaksForAll
oldest_for_all numbers s p table block blocks blocked shown below has = drops_for_all numbers s p table block blocks blocked shown below has
