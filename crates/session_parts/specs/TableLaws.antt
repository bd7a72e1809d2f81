-- how the tables that a store shows stay, and how one of them goes on
use Rattle.std.specs.Prelude.{◌≡◌, ◌≢◌, ◌⊎◌, ℕ, ◌<◌, Bool, false, IsTrue, List, Some}
use Rattle.block_model.specs.declared.place.Spot.{Spot}
use Rattle.block_model.specs.declared.row.Row.{Row}
use Rattle.page_layout.specs.PageContents.{Slot}
use Rattle.page_layout.specs.PageWrites.{marked}
use Rattle.page_layout.specs.RowBytes.{StoredRow}
use Rattle.page_locks.specs.LockChanges.{GivesAll}
use Rattle.page_locks.specs.LockHolders.{LockState, holder}
use Rattle.page_locks.specs.RightHolders.{right_of}
use Rattle.page_map.specs.PageMap.{page_at}
use Rattle.block_model.specs.declared.place.Place.{Place as PagePlace}
use Rattle.store_layout.specs.DiskLayout.{DiskLayout}
use Rattle.heap_rows.specs.HeapBlocks.{HasBlocks}
use Rattle.heap_rows.specs.RowPlaces.{ChangesSlot, FillsSlot, slot_at, with_row}
use Rattle.snapshot_core.specs.declared.statuses.Status.{Status}
use Rattle.snapshot_core.specs.Visibility.{in_snapshot}
use Rattle.snapshot_core.specs.StoredVersions.{transaction_of}
use Rattle.transactions.specs.CountedRows.{counts as counts_of}
use Rattle.coverage.specs.Statements.{Copied, Empty, Held}
use Rattle.coverage.specs.Machines.{Unseen, table_state}
use Rattle.coverage.specs.Table.{Inserts, Marks, Resting, Scans, TableState, Task}
use Rattle.coverage.specs.TableCovered.{IsTableKept}
use Rattle.coverage.specs.TableSteps.{TableStep}
use Rattle.script_semantics.specs.ShownIndex.{lock_in}
use Rattle.script_semantics.specs.ShownRows.{ShowsKept, shown_by}
use Rattle.bitmap_scan.specs.Finds.{Sight, sees_stored}
use Rattle.bitmap_scan.specs.SeenRows.{IsOthersSince, StaysInSlot}
use Rattle.session_parts.specs.HandsInTables.{IsTaskOf, table_in}
use Rattle.session_parts.specs.Leaving.{LacksDeleters, LeavesOthers, LeavesTable, RowsStay, SeeAlike, SeenSlotsStay, SeesSlots, SlotsStay}
use Rattle.session_parts.specs.PlacesAfter.{recounted}
use Rattle.session_parts.specs.ShowsPlace.{ShowsTable}
use Rattle.session_parts.specs.StoreStates.{ShownStore, hand_in}

-- a statement at this locks no page between its steps
abbrev pub IsQuiet : Task → Type 0
IsQuiet Resting = Unit {0}
IsQuiet (Inserts b k r at Empty) = Unit {0}
IsQuiet (Inserts b k r at (Held x)) = Unit {0}
IsQuiet (Inserts b k r at (Copied x old new)) = Unit {0}
IsQuiet (Scans scan) = Unit {0}
IsQuiet (Marks scan ids) = Unit {0}
IsQuiet task = ⊥

abbrev pub QuietOnesLockNone : Type 0
QuietOnesLockNone = (w : TableState) (n at page : ℕ) → IsTableKept w → IsQuiet (w.task n) → at < w.indexes → (w.index at).lock page ≢ Some n

-- giving all locks changes none where the session has none
abbrev pub GivesNone : Type 0
GivesNone = (layout : DiskLayout) (old new : LockState) (n index page : ℕ) → GivesAll (holder old) (holder new) n → lock_in layout old index page ≢ Some n
    → lock_in layout new index page ≡ lock_in layout old index page

-- one that is in no step of this table is at nothing there
abbrev pub RestsElsewhere : Type 0
RestsElsewhere = (s : ShownStore) (stored : List Status) (blocks : List (List Slot)) (n table : ℕ) → table_in s.layout (hand_in s.hands n) ≢ Some table
    → IsTaskOf s.layout table blocks s.transactions.tx stored (transaction_of s.transactions.opens n) (hand_in s.hands n) Resting

-- rows come to count only where the table has none of that transaction
abbrev pub CountsFewIn : (w : TableState) → (ℕ → Bool) → Type 0
CountsFewIn w counts = (t : ℕ) → IsTrue (counts t) → IsTrue (w.counts t) ⊎ ((b k : ℕ) (r : Row) → w.row b k ≡ Some r → r.id.t ≢ t)

-- a table that a step leaves is shown as it was, with other rows that count
abbrev pub AnotherTableStays : Type 0
AnotherTableStays = (old new : ShownStore) (stored later : List Status) (n table : ℕ) (w : TableState) → ShowsTable old stored table w
    → LeavesOthers n old new → LeavesTable n table old new → SeeAlike n old new stored later → CountsFewIn w (counts_of new.transactions later)
    → ShowsTable new later table (recounted w (counts_of new.transactions later))

-- The table of a step is shown as the step leaves it: its session's statement is at its task, and each other one is where it was. Its statuses stay.
abbrev pub OwnTableGoesOn : Type 0
OwnTableGoesOn = (old new : ShownStore) (stored : List Status) (n table : ℕ) (w v : TableState) (u : Unseen) (now : List (List Slot)) → (shows : ShowsTable old stored table w)
    → LeavesOthers n old new → TableStep n w v
    → v ≡ table_state (shown_by old.layout new.pages new.locks table now) u → HasBlocks old.layout new.pages table now
    → u.summarise_lock ≡ right_of new.rights table → ((t : ℕ) → u.counts t ≡ counts_of new.transactions stored t)
    → ((m : ℕ) → m ≢ n → u.task m ≡ shows.unseen.task m)
    → IsTaskOf old.layout table now new.transactions.tx stored (transaction_of new.transactions.opens n) (hand_in new.hands n) (u.task n)
    → SlotsStay n old stored shows.blocks now → ShowsTable new stored table v

-- So is the table of a step that drops rows which no other session's statement sees.
abbrev pub OwnTableIsPruned : Type 0
OwnTableIsPruned = (old new : ShownStore) (stored : List Status) (n table : ℕ) (w v : TableState) (u : Unseen) (now : List (List Slot)) → (shows : ShowsTable old stored table w)
    → LeavesOthers n old new → TableStep n w v
    → v ≡ table_state (shown_by old.layout new.pages new.locks table now) u → HasBlocks old.layout new.pages table now
    → u.summarise_lock ≡ right_of new.rights table → ((t : ℕ) → u.counts t ≡ counts_of new.transactions stored t)
    → ((m : ℕ) → m ≢ n → u.task m ≡ shows.unseen.task m)
    → IsTaskOf old.layout table now new.transactions.tx stored (transaction_of new.transactions.opens n) (hand_in new.hands n) (u.task n)
    → SeenSlotsStay n old shows.unseen.task stored shows.blocks now → ShowsTable new stored table v

-- what a machine needs of the table that is shown
abbrev pub TableIsKept : Type 0
TableIsKept = (s : ShownStore) (stored : List Status) (n table : ℕ) (w : TableState) (task : Task) → ShowsTable s stored table w → w.task n ≡ task
    → ShowsKept s.layout s.pages s.locks n table task

-- the table's pages and locks show the same where its heap, its indexes and their locks stay
abbrev pub TableShowsAlike : Type 0
TableShowsAlike = (n table : ℕ) (old new : ShownStore) (blocks : List (List Slot))
    → ((place : PagePlace) → page_at new.pages place ≡ page_at old.pages place)
    → ((index page : ℕ) → lock_in old.layout new.locks index page ≡ lock_in old.layout old.locks index page)
    → shown_by old.layout new.pages new.locks table blocks ≡ shown_by old.layout old.pages old.locks table blocks

-- ---- what others see of the slots

-- nothing changes
pub record AreSameSlots (blocks : List (List Slot)) : Type 0 where
  pub rows : RowsStay blocks blocks
  pub seen : (sight : Sight) → SeesSlots sight blocks blocks
  pub lacks : (sight : Sight) → LacksDeleters sight blocks blocks

abbrev pub SameSlotsStay : Type 0
SameSlotsStay = (blocks : List (List Slot)) → AreSameSlots blocks

-- a row is put into a free slot
pub record IsSlotFilled (row : StoredRow) (old new : List (List Slot)) : Type 0 where
  pub rows : RowsStay old new
  pub seen : (sight : Sight) → IsOthersSince sight row.id.t → SeesSlots sight old new
  pub unseen : (sight : Sight) → sees_stored sight row ≡ false → SeesSlots sight old new
  pub lacks : (sight : Sight) → LacksDeleters sight old new

abbrev pub FilledSlotStays : Type 0
FilledSlotStays = (count : ℕ) (spot : Spot) (row : StoredRow) (blocks : List (List Slot)) → FillsSlot count spot row blocks
    → IsSlotFilled row blocks (with_row count blocks spot row)

-- a row is marked
pub record IsSlotMarked (row : StoredRow) (deleter : ℕ) (old new : List (List Slot)) : Type 0 where
  pub rows : RowsStay old new
  pub seen : (sight : Sight) → StaysInSlot sight row (marked row deleter) → SeesSlots sight old new
  pub alike : (sight : Sight) → sees_stored sight (marked row deleter) ≡ sees_stored sight row → SeesSlots sight old new
  pub lacks : (sight : Sight) → in_snapshot sight.snapshot deleter (sight.status deleter) ≡ false → LacksDeleters sight old new

abbrev pub MarkedSlotStays : Type 0
MarkedSlotStays = (spot : Spot) (row : StoredRow) (deleter : ℕ) (old new : List (List Slot)) → slot_at old spot ≡ Some row
    → ChangesSlot old new spot (Some (marked row deleter)) → IsSlotMarked row deleter old new
