-- which rows of the heap the statements of other sessions want
use Rattle.std.specs.Prelude.{◌≡◌, ◌≢◌, ℕ, true, List, Some, Contains}
use Rattle.block_model.specs.declared.place.Spot.{Spot}
use Rattle.page_layout.specs.PageContents.{Slot}
use Rattle.page_layout.specs.RowBytes.{StoredRow}
use Rattle.heap_rows.specs.RowPlaces.{slot_at}
use Rattle.snapshot_core.specs.Visibility.{sees}
use Rattle.snapshot_core.specs.declared.snapshots.Snapshot.{Snapshot}
use Rattle.snapshot_core.specs.declared.statuses.Status.TheVariants.{Committed, RolledBack}
use Rattle.coverage.specs.Machines.{Unseen}
use Rattle.coverage.specs.TableSteps.{HasPut, SeesPlace}
use Rattle.vacuum_core.specs.DeadRows.{Living}

-- an open transaction sees the row; and where it put the row itself, it has not rolled back
pub record IsSeenLive (by : Living) (row : StoredRow) : Type 0 where
  pub snapshot : Snapshot
  pub own : ℕ
  pub live : Contains by.live snapshot
  pub seen : sees snapshot own row.id.t row.deleter (by.status row.id.t) (by.status row.deleter) ≡ true
  pub alive : row.id.t ≡ own → by.status row.id.t ≢ RolledBack

-- the transaction that put the row has not rolled back, and none that has committed deleted it
abbrev pub IsPutLive : Living → StoredRow → Type 0
IsPutLive by row = (by.status row.id.t ≢ RolledBack) × (by.status row.deleter ≢ Committed)

-- So it is of the rows that running inserts of other sessions have put, and of those that their scans see.
pub record AreWatched (by : Living) (s : ℕ) (blocks : List (List Slot)) (u : Unseen) : Type 0 where
  pub put : (n : ℕ) (x : Spot) (row : StoredRow) → n ≢ s → slot_at blocks x ≡ Some row → HasPut x.block x.slot (u.task n) → IsPutLive by row
  pub seen : (n : ℕ) (x : Spot) (row : StoredRow) → n ≢ s → slot_at blocks x ≡ Some row → SeesPlace x.block x.slot (u.task n) → IsSeenLive by row
