-- a row that is dead to all nobody sees: no commit has it, and no open transaction sees it, or marked it
use Rattle.std.proofs.Common.{◌≡◌, ◌≢◌, Bool, true, false, not, ◌&&◌, ◌||◌, eqb, ℕ, ◌<◌, List, length, Some, refl, sym, ap, ◌∙◌, inl, inr}
use Rattle.std.proofs.lemmas.Bool.{and_parts, false≢true, ne_eqb, or_cases, or_right}
use Rattle.std.specs.List.{list_all}
use Rattle.block_model.specs.declared.place.Spot.{Spot}
use Rattle.block_model.specs.DatabaseState.{DatabaseState}
use Rattle.store_layout.specs.DiskLayout.{DiskLayout}
use Rattle.page_layout.specs.RowBytes.{StoredRow}
use Rattle.page_map.specs.PageMap.{PageMap}
use Rattle.snapshot_core.specs.Dead.{is_dead_to_all, is_deleted_for_all, is_rolled_back}
use Rattle.snapshot_core.specs.declared.snapshots.Snapshot.{Snapshot}
use Rattle.snapshot_core.specs.declared.statuses.Status.{Status}
use Rattle.snapshot_core.specs.declared.statuses.Status.TheVariants.{Begun, Committed, RolledBack, Unused}
use Rattle.snapshot_core.specs.Visibility.{had_ended, has_done, in_snapshot, is_committed}
use Rattle.snapshot_core.specs.declared.sessions.Open.{Open}
use Rattle.snapshot_core.specs.declared.table.Version.{Version}
use Rattle.snapshot_core.specs.StoredVersions.{IsKnown, IsUnderWay, transaction_of}
use Rattle.snapshot_core.specs.VisibleState.{status_of}
use Rattle.transactions.specs.ShownVersions.{version_of}
use Rattle.transactions.specs.GivenStatuses.{given_statuses}
use Rattle.transactions.specs.ShowsDatabase.{ShowsDatabase}
use Rattle.transactions.specs.StoredRows.{StandsAt}
use Rattle.transactions.specs.TransactionsState.{TransactionsState}
use Rattle.transactions.proofs.Given.{status_given}
use Rattle.transactions.proofs.Marks.{row_stored}
use Rattle.transactions.proofs.Shown.{versions_on_pages, whole}
use Rattle.vacuum_core.specs.DeadRows.{is_dead}
use Rattle.session_maintenance.specs.DeadToAll.{living_of, snapshots_of}
use Rattle.session_maintenance.proofs.Oldest.{each_snapshot}
use Rattle.session_maintenance.proofs.Thinned.{IsUnseenVersion}

rolled_uncommitted : (e : Status) → is_rolled_back e ≡ true → is_committed e ≡ false
rolled_uncommitted Unused is = absurd (false≢true is)
rolled_uncommitted Begun is = absurd (false≢true is)
rolled_uncommitted Committed is = absurd (false≢true is)
rolled_uncommitted RolledBack is = refl

and_none : (b : Bool) → (b && false) ≡ false
and_none true = refl
and_none false = refl

module _ (layout : DiskLayout) (pages : PageMap) (t : TransactionsState) (d : DatabaseState) (shows : ShowsDatabase layout pages t d) (table : ℕ) (spot : Spot) (row : StoredRow)
    (below : table < length layout.schema.tables) (stands : StandsAt layout pages table spot row) (dead : is_dead (living_of t shows.stored) row ≡ true) where
  abbrev statuses : List Status
  statuses = given_statuses t.tx shows.stored

  abbrev v : Version
  v = version_of table row

  abbrev put : Status
  put = status_of statuses row.id.t

  abbrev gone : Status
  gone = status_of statuses row.deleter

  dead_here : is_dead_to_all (snapshots_of t.opens) row.deleter put gone ≡ true
  dead_here =
      (λ i. is_dead_to_all (snapshots_of t.opens) row.deleter (status_given t.tx shows.stored row.id.t shows.next i) (status_given t.tx shows.stored row.deleter shows.next i)) ∙ dead

  known : IsKnown statuses v
  known = (whole shows).known row.id v (row_stored shows table spot row below stands)

  under : (m : ℕ) (o : Open) → transaction_of t.opens m ≡ Some o → IsUnderWay (versions_on_pages layout pages) statuses o
  under m o is = (whole shows).under_way m o is

  -- its transaction was rolled back
  module _ (rolled : is_rolled_back put ≡ true) where
    none_committed : is_committed put ≡ false
    none_committed = rolled_uncommitted put rolled

    put_by_another : (m : ℕ) (o : Open) → transaction_of t.opens m ≡ Some o → row.id.t ≢ o.t
    put_by_another m o is same = false≢true (sym (ap is_rolled_back (ap (status_of statuses) same ∙ (under m o is).begun)) ∙ rolled)

    deleted_by_another : (m : ℕ) (o : Open) → transaction_of t.opens m ≡ Some o → row.deleter ≢ o.t
    deleted_by_another m o is same =
        false≢true (sym none_committed ∙ known.marked (ap (status_of statuses) same ∙ (under m o is).begun) (λ own. put_by_another m o is (sym own ∙ same)))

    rolled_unseen : IsUnseenVersion statuses t.opens v
    rolled_unseen = record {
      uncommitted = ap (λ (b : Bool). b && not (is_committed gone)) none_committed;
      unseen = λ m o is.
          (λ i. (ne_eqb row.id.t o.t (put_by_another m o is) i || (none_committed i && had_ended o.snapshot row.id.t)) && not (has_done o.snapshot o.t row.deleter gone));
      unmarked = λ m o is. ap (λ (b : Bool). b && not (eqb row.id.t o.t)) (ne_eqb row.deleter o.t (deleted_by_another m o is));
    }

  -- it is deleted for all
  module _ (deleted : is_deleted_for_all (snapshots_of t.opens) row.deleter gone ≡ true) where
    by_commit : (is_committed gone ≡ true) × (list_all (λ (s : Snapshot). in_snapshot s row.deleter gone) (snapshots_of t.opens) ≡ true)
    by_commit = and_parts (is_committed gone) (list_all (λ (s : Snapshot). in_snapshot s row.deleter gone) (snapshots_of t.opens)) deleted

    not_own : (m : ℕ) (o : Open) → transaction_of t.opens m ≡ Some o → row.deleter ≢ o.t
    not_own m o is same = false≢true (sym (ap is_committed (ap (status_of statuses) same ∙ (under m o is).begun)) ∙ by_commit.0)

    deletion_done : (m : ℕ) (o : Open) → transaction_of t.opens m ≡ Some o → has_done o.snapshot o.t row.deleter gone ≡ true
    deletion_done m o is = or_right (eqb row.deleter o.t) (in_snapshot o.snapshot row.deleter gone) (each_snapshot t.opens (λ (s : Snapshot). in_snapshot s row.deleter gone) by_commit.1 m o is)

    deleted_unseen : IsUnseenVersion statuses t.opens v
    deleted_unseen = record {
      uncommitted = ap (λ (b : Bool). is_committed put && not b) by_commit.0 ∙ and_none (is_committed put);
      unseen = λ m o is. ap (λ (b : Bool). has_done o.snapshot o.t row.id.t put && not b) (deletion_done m o is) ∙ and_none (has_done o.snapshot o.t row.id.t put);
      unmarked = λ m o is. ap (λ (b : Bool). b && not (eqb row.id.t o.t)) (ne_eqb row.deleter o.t (not_own m o is));
    }

  pub dead_unseen : IsUnseenVersion statuses t.opens v
  dead_unseen = elim (or_cases (is_rolled_back put) (is_deleted_for_all (snapshots_of t.opens) row.deleter gone) dead_here) [
    | inl rolled ↦ rolled_unseen rolled
    | inr deleted ↦ deleted_unseen deleted
  ]
