-- Which rows of a table the statements of other sessions want, by open transactions and statuses.
use Rattle.std.specs.Prelude.{◌≡◌, ◌≢◌, ℕ, ◌<◌, false, IsTrue, List, length, Some}
use Rattle.block_model.specs.declared.place.Spot.{Spot}
use Rattle.block_model.specs.declared.row.RowId.{RowId}
use Rattle.page_layout.specs.PageContents.{Slot}
use Rattle.page_layout.specs.RowBytes.{StoredRow}
use Rattle.page_locks.specs.LockHolders.{LockState}
use Rattle.page_map.specs.PageMap.{PageMap}
use Rattle.heap_rows.specs.RowPlaces.{slot_at}
use Rattle.snapshot_core.specs.declared.sessions.Open.{Open}
use Rattle.snapshot_core.specs.StoredVersions.{transaction_of}
use Rattle.transactions.specs.GivenStatuses.{given_status}
use Rattle.coverage.specs.Machines.{Unseen}
use Rattle.coverage.specs.Table.{Marks, TableScan, TableState}
use Rattle.index_steps.specs.ShownRows.{shown_by}
use Rattle.vacuum_core.specs.DeadRows.{DropsTheDead, Living, is_dead}
use Rattle.vacuum_core.specs.SparedRows.{AreWatched, IsSeenLive}
use Rattle.vacuum_core.specs.TableSteps.{IsSpared}
use Rattle.script_semantics.specs.Place.{Place}
use Rattle.session_parts.specs.ShowsPlace.{IsPlaceOf, ShowsTable}
use Rattle.session_parts.specs.StoreStates.{ShownStore}
use Rattle.session_parts.specs.SeenBefore.{WasSeenBy}
use Rattle.session_maintenance.specs.DeadToAll.{living_of}

-- What the place of a store doesn't tell: which rows a delete sees that marks by now, but for those that are left to mark. It isn't so of a delete that has
-- marked a row of its own transaction (OwnDeleteIsUnseen); all rows that it saw are spared (SeenBeforeIsSpared).
abbrev pub MarkedAreSeen : Living → (s : ℕ) → List (List Slot) → Unseen → Type 0
MarkedAreSeen by s blocks u = (n : ℕ) (scan : TableScan) (ids : List RowId) (x : Spot) (row : StoredRow) → n ≢ s → u.task n ≡ Marks scan ids
    → slot_at blocks x ≡ Some row → IsTrue (scan.sees x.block x.slot) → IsSeenLive by row

-- In a table that a store shows: what a running insert put is of its session's open transaction, and a scan sees by its own's snapshot.
abbrev pub TableIsWatched : Type 0
TableIsWatched = (s : ShownStore) (p : Place) (n table : ℕ) (w : TableState) → (shown : IsPlaceOf s p) → (shows : ShowsTable s shown.database.stored table w)
    → table < length s.layout.schema.tables
    → MarkedAreSeen (living_of s.transactions shown.database.stored) n shows.blocks shows.unseen
    → AreWatched (living_of s.transactions shown.database.stored) n shows.blocks shows.unseen

-- nobody sees a row that its own transaction deleted
abbrev pub OwnDeleteIsUnseen : Type 0
OwnDeleteIsUnseen = (by : Living) (row : StoredRow) → row.deleter ≡ row.id.t → IsSeenLive by row → ⊥

-- a row that an open transaction saw before its own deletes isn't dead to all, whoever deleted it since
abbrev pub SeenBeforeIsSpared : Type 0
SeenBeforeIsSpared = (s : ShownStore) (p : Place) (n : ℕ) (o : Open) (row : StoredRow) → (shown : IsPlaceOf s p) → transaction_of s.transactions.opens n ≡ Some o
    → WasSeenBy (given_status s.transactions.tx.first shown.database.stored) o row → is_dead (living_of s.transactions shown.database.stored) row ≡ false

-- ---- the rows that go

-- Where exactly the dead rows of a block go, no other session's statement wants one of them.
abbrev pub TableIsSpared : Type 0
TableIsSpared = (s : ShownStore) (p : Place) (n table block : ℕ) (w : TableState) (paged : PageMap) (locked : LockState) (blocked : List (List Slot)) → (shown : IsPlaceOf s p)
    → (shows : ShowsTable s shown.database.stored table w) → table < length s.layout.schema.tables
    → DropsTheDead (living_of s.transactions shown.database.stored) shows.blocks blocked block
    → IsSpared n (shown_by s.layout s.pages s.locks table shows.blocks) (shown_by s.layout paged locked table blocked) shows.unseen
