-- the rows that an open transaction saw before its own deletes, and how they stay
use Rattle.std.specs.Prelude.{◌≡◌, ◌≢◌, ◌⊎◌, ℕ, ◌<◌, Bool, true, false, IsTrue, List, set, Some}
use Rattle.block_model.specs.declared.place.Spot.{Spot}
use Rattle.block_model.specs.DatabaseState.{DatabaseState}
use Rattle.store_layout.specs.DiskLayout.{DiskLayout}
use Rattle.page_layout.specs.PageContents.{Slot}
use Rattle.page_layout.specs.RowBytes.{StoredRow}
use Rattle.page_map.specs.PageMap.{PageMap}
use Rattle.heap_rows.specs.RowPlaces.{slot_at}
use Rattle.snapshot_core.specs.declared.statuses.Status.{Status}
use Rattle.snapshot_core.specs.declared.statuses.Status.TheVariants as status
use Rattle.snapshot_core.specs.Visibility.{has_done, in_snapshot}
use Rattle.snapshot_core.specs.declared.sessions.Open.{Open}
use Rattle.snapshot_core.specs.StoredVersions.{transaction_of}
use Rattle.tx_table.specs.Statuses.{HasStatuses, number_limit}
use Rattle.transactions.specs.GivenStatuses.{given_status}
use Rattle.transactions.specs.ShowsDatabase.{ShowsDatabase}
use Rattle.transactions.specs.TransactionsState.{TransactionsState}
use Rattle.session_parts.specs.RowsFollow.{IsOfOpen}

-- An open transaction saw the row before its own deletes: the row is its own or of a commit in its snapshot, and the snapshot hasn't got the deleter.
pub record WasSeenBy (status : ℕ → Status) (o : Open) (row : StoredRow) : Type 0 where
  pub put : has_done o.snapshot o.t row.id.t (status row.id.t) ≡ true
  pub undeleted : in_snapshot o.snapshot row.deleter (status row.deleter) ≡ false

-- so it saw each row that stands where these places are
abbrev pub SawRows : (first : ℕ) → List Status → Open → (sees : ℕ → ℕ → Bool) → List (List Slot) → Type 0
SawRows first stored o sees blocks = (x : Spot) (row : StoredRow) → slot_at blocks x ≡ Some row → IsTrue (sees x.block x.slot) → WasSeenBy (given_status first stored) o row

-- each row at these places stood there, with this deleter or one that was open
abbrev pub RowsGoOn : TransactionsState → (sees : ℕ → ℕ → Bool) → (old new : List (List Slot)) → Type 0
RowsGoOn t sees old new = (x : Spot) (row : StoredRow) → slot_at new x ≡ Some row → IsTrue (sees x.block x.slot)
    → (was : StoredRow) × (slot_at old x ≡ Some was) × (was.id ≡ row.id) × ((was.deleter ≡ row.deleter) ⊎ IsOfOpen t row.deleter)

-- and it stays so where rows are marked
abbrev pub SawRowsStay : Type 0
SawRowsStay = (layout : DiskLayout) (pages : PageMap) (t : TransactionsState) (s : DatabaseState) (stored : List Status) (o : Open) (sees : ℕ → ℕ → Bool) (old new : List (List Slot))
    → ShowsDatabase layout pages t s → HasStatuses layout pages stored → RowsGoOn t sees old new → SawRows t.tx.first stored o sees old → SawRows t.tx.first stored o sees new

-- where a transaction begins
abbrev pub SawRowsAtBegin : Type 0
SawRowsAtBegin = (layout : DiskLayout) (pages : PageMap) (t : TransactionsState) (s : DatabaseState) (stored : List Status) (o : Open) (sees : ℕ → ℕ → Bool) (blocks : List (List Slot))
    → ShowsDatabase layout pages t s → HasStatuses layout pages stored → t.tx.next < number_limit layout
    → SawRows t.tx.first stored o sees blocks → SawRows t.tx.first (set stored t.tx.next status.Begun) o sees blocks

-- and where another session's ends
abbrev pub SawRowsAtEnd : Type 0
SawRowsAtEnd = (layout : DiskLayout) (pages : PageMap) (t : TransactionsState) (s : DatabaseState) (stored : List Status) (session other : ℕ) (ending o : Open) (end : Status) (sees : ℕ → ℕ → Bool) (blocks : List (List Slot))
    → ShowsDatabase layout pages t s → transaction_of t.opens session ≡ Some ending → transaction_of t.opens other ≡ Some o → other ≢ session
    → SawRows t.tx.first stored o sees blocks → SawRows t.tx.first (set stored ending.t end) o sees blocks
