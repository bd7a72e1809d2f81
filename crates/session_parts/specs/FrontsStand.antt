-- How the statuses and the snapshots of a store stand to the fronts of its journal.
use Rattle.std.specs.Prelude.{◌≡◌, ◌≢◌, ◌↔◌, ◌==◌, ℕ, ◌<◌, ◌≤◌, true, IsTrue, List, length, Some}
use Rattle.std.specs.List.{IsDistinct}
use Rattle.std.specs.FinMap as map
use Rattle.block_model.specs.declared.place.Spot.{Spot}
use Rattle.block_model.specs.declared.row.RowId.{RowId}
use Rattle.block_model.specs.DatabaseState.{DatabaseState}
use Rattle.block_model.specs.SerialRun.{serial_run}
use Rattle.store_layout.specs.DiskLayout.{DiskLayout}
use Rattle.page_layout.specs.RowBytes.{StoredRow}
use Rattle.page_map.specs.PageMap.{PageMap}
use Rattle.snapshot_core.specs.declared.snapshots.Snapshot.{Snapshot}
use Rattle.snapshot_core.specs.declared.statuses.Status.{Status}
use Rattle.snapshot_core.specs.Visibility.{had_ended, is_committed, was_active}
use Rattle.snapshot_core.specs.declared.sessions.Open.{Open}
use Rattle.snapshot_core.specs.StoredVersions.{transaction_of}
use Rattle.transactions.specs.GivenStatuses.{given_status}
use Rattle.transactions.specs.StoredRows.{StandsAt}
use Rattle.transactions.specs.TransactionsState.{TransactionsState}
use Rattle.script_semantics.specs.DeadRows.{IsCommitted, IsOpen}
use Rattle.script_semantics.specs.Place.{Place}
use Rattle.script_semantics.specs.Views.{view_front}
use Rattle.script_semantics.specs.Openings.{NoneOpen, RowsAreEarlier}

-- each transaction since the opening has committed by its status exactly where the journal has its commit
abbrev pub CommitsStand : (first : ℕ) → List Status → Place → Type 0
CommitsStand first stored p = (u : ℕ) → p.opening.next ≤ u → IsTrue (is_committed (given_status first stored u)) ↔ IsCommitted p u

-- The snapshot was taken of this database: it has the number that the next transaction was to have, and once each those of the open ones.
pub record IsTakenOf (snapshot : Snapshot) (s : DatabaseState) : Type 0 where
  pub next : snapshot.next ≡ s.next
  pub active : (u : ℕ) → IsTrue (was_active snapshot u) ↔ IsOpen s u
  pub once : IsDistinct (λ u t. u == t) snapshot.active

-- each open transaction's snapshot was taken at the front where its session took its view
abbrev pub SnapshotsStand : TransactionsState → Place → Type 0
SnapshotsStand t p = (n : ℕ) (o : Open) → transaction_of t.opens n ≡ Some o → IsTakenOf o.snapshot (serial_run p.opening (view_front n p.journal))

-- Each row of the opening's table is of a committed transaction. A row on the pages whose transaction was rolled back before the opening is dead
-- because that table hasn't got it; only this tells it of statuses, since the journal says nothing of what was before it.
abbrev pub OpeningStands : (first : ℕ) → List Status → Place → Type 0
OpeningStands first stored p = (id : RowId) → map.contains_key p.opening.table id ≡ true → IsTrue (is_committed (given_status first stored id.t))

-- A snapshot that has a row's deleter has the one that put it too. A row is dead at the front where a snapshot was taken only where its own
-- transaction had ended there; but of a deleter that has committed the pages keep its number alone, and the statuses not which of two came first.
abbrev pub DeletersFollow : DiskLayout → PageMap → TransactionsState → Type 0
DeletersFollow layout pages t = (table : ℕ) (spot : Spot) (row : StoredRow) → table < length layout.schema.tables → StandsAt layout pages table spot row → row.deleter ≢ 0
    → (n : ℕ) (o : Open) → transaction_of t.opens n ≡ Some o → IsTrue (had_ended o.snapshot row.deleter) → IsTrue (had_ended o.snapshot row.id.t)

-- What a vacuum needs of a store that shows this place, with these statuses on its pages.
pub record FrontsStand (layout : DiskLayout) (pages : PageMap) (t : TransactionsState) (stored : List Status) (p : Place) : Type 0 where
  pub none_open : NoneOpen p.opening
  pub earlier : RowsAreEarlier p.opening
  pub first : p.opening.next ≡ t.tx.first
  pub commits : CommitsStand t.tx.first stored p
  pub snapshots : SnapshotsStand t p
  pub opening : OpeningStands t.tx.first stored p
  pub deleters : DeletersFollow layout pages t
