-- what a scan finds on the pages of its candidate blocks, and what its steps do
use Rattle.std.specs.Prelude.{◌≡◌, ℕ, ◌⊎◌, ◌+◌, ◌≤◌, ◌<◌, ◌==◌, if◌then◌else◌, Bool, true, false, ◌&&◌, All, List, [], ◌∷◌, ◌++◌, length, map, Option, None, Some, Result, Err}
use Rattle.std.specs.List.{filter, list_any}
use Rattle.block_model.specs.declared.place.Spot.{Spot}
use Rattle.block_model.specs.declared.reply.Point.{Point}
use Rattle.block_model.specs.declared.row.Query.{Query}
use Rattle.block_model.specs.declared.row.Row.{Row}
use Rattle.block_model.specs.RowMatches.{row_matches}
use Rattle.disk_trait.specs.Told.{Told}
use Rattle.store_layout.specs.DiskLayout.{DiskLayout, IsPlace}
use Rattle.page_layout.specs.PageContents.{Slot}
use Rattle.page_layout.specs.RowBytes.{StoredRow}
use Rattle.page_map.specs.declared.faults.MachineFault.{MachineFault}
use Rattle.page_map.specs.declared.faults.MachineFault.TheVariants as faults
use Rattle.page_map.specs.Outcome.{NamesPage}
use Rattle.page_map.specs.PageMap.{PageMap, View}
use Rattle.page_locks.specs.declared.did.Did.{Did}
use Rattle.page_locks.specs.declared.did.Did.TheVariants as did
use Rattle.page_locks.specs.LockHolders.{LockState}
use Rattle.coverage.specs.Machines.{Unseen}
use Rattle.heap_rows.specs.declared.rows.Stored.{Stored}
use Rattle.heap_rows.specs.Heaps.{relation_of, slots_a_page}
use Rattle.heap_rows.specs.HeapBlocks.{HasBlocks, slots_of}
use Rattle.heap_rows.specs.RowPlaces.{slot_at}
use Rattle.heap_rows.specs.StoredRows.{row_of, stored_rows}
use Rattle.snapshot_core.specs.declared.snapshots.Snapshot.{Snapshot}
use Rattle.snapshot_core.specs.declared.statuses.Status.{Status}
use Rattle.snapshot_core.specs.declared.statuses.Status.TheVariants.{Unused}
use Rattle.snapshot_core.specs.Visibility.{sees}
use Rattle.tx_table.specs.LeavesRest.{NamesStatuses}
use Rattle.tx_table.specs.Statuses.{HasStatuses, shown_status}
use Rattle.bitmap_scan.specs.ScanHands.{IsScanOf, ScanHand, is_candidate}
use Rattle.bitmap_scan.specs.ScanAnswers.{NamesPageAt, ReadOutcome, ScanStepped}
use Rattle.bitmap_scan.specs.ScanSteps.{account_at, point_at}
use Rattle.index_steps.specs.ShownRows.{shown_by}
use Rattle.bitmap_scan.specs.TableScans.{Beside, BeginsAt, table_scan, task_of}
use Rattle.bitmap_scan.specs.declared.sight.LastStatuses.{LastStatuses}
use Rattle.bitmap_scan.specs.declared.stage.Stage.{Stage}
use Rattle.bitmap_scan.specs.declared.stage.Stage.TheVariants as stages

-- how a transaction sees rows: its snapshot, its number, and how each transaction stands
pub record Sight : Type 0 where
  pub snapshot : Snapshot
  pub own : ℕ
  pub status : ℕ → Status

-- it sees the row of a slot
abbrev pub sees_stored : Sight → StoredRow → Bool
sees_stored sight row = sees sight.snapshot sight.own row.id.t row.deleter (sight.status row.id.t) (sight.status row.deleter)

-- a row as it is found: the row, and where it stands
abbrev pub found_at : (table block : ℕ) → Stored → Row × Spot
found_at table block stored = (record { table = table; id = stored.id; values = stored.values }, record { block = block; slot = stored.slot })

-- of a block's rows those that the transaction sees and the query finds
abbrev pub is_visible_match : Sight → Query → Stored → Bool
is_visible_match sight query stored = row_matches query (record { table = query.table; id = stored.id; values = stored.values }) && sees_stored sight (row_of stored)

-- in order of slot
abbrev pub visible_matches : Sight → Query → (block : ℕ) → List Stored → List (Row × Spot)
visible_matches sight query block rows = map (found_at query.table block) (filter (is_visible_match sight query) rows)

-- The judging of its ranges; up to where the candidates are read, and which is next; the rows found; what it remembers of transactions; for
-- how many rows of a page there is room.
pub record FindHand : Type 0 where
  pub judging : ScanHand
  pub read : ℕ
  pub next : Option ℕ
  pub found : List (Row × Spot)
  pub last : LastStatuses
  pub room : ℕ

-- at first it remembers no transaction
abbrev pub none_read : LastStatuses
none_read = record { put = None; gone = None }

-- before its first step
abbrev pub first_find : ScanHand → (room : ℕ) → FindHand
first_find judging room = record { judging = judging; read = 0; next = None; found = []; last = none_read; room = room }

-- a row is found at that place
abbrev pub is_found : List (Row × Spot) → ℕ → ℕ → Bool
is_found found b k = list_any (λ (f : Row × Spot). (f.1.block == b) && (f.1.slot == k)) found

-- a select's scan, or a delete's
abbrev pub scanning : (sees : ℕ → ℕ → Bool) → (judged : ℕ → ℕ → Option Bool) → (deletes : Bool) → FindHand → Beside
scanning sees judged deletes hand = record { sees = sees; judged = judged; explains = false; deletes = deletes; read = hand.read; found = is_found hand.found }

-- a step is left: a range to judge, or a block to read
abbrev pub IsScanning : Stage → (next : Option ℕ) → Type 0
IsScanning stages.Judged None = ⊥
IsScanning stage next = Unit {0}

-- in the block that is read next, the rows that the session sees are those that the transaction does
abbrev pub SeesThere : Sight → List (List Slot) → (sees : ℕ → ℕ → Bool) → (next : Option ℕ) → Type 0
SeesThere sight blocks sees None = Unit {0}
SeesThere sight blocks sees (Some b) = (k : ℕ) (row : StoredRow) → slot_at blocks (record { block = b; slot = k }) ≡ Some row → sees b k ≡ sees_stored sight row

-- the step is that of a scan in its table, whatever it made of the ranges so far, and whatever the pages don't show
abbrev pub FindSteps : DiskLayout → PageMap → Sight → (old new : FindHand) → Did → Type 0
FindSteps layout pages sight old new did = (s : ℕ) (locks : LockState) (blocks : List (List Slot)) (sees : ℕ → ℕ → Bool) (judged : ℕ → ℕ → Option Bool) (deletes : Bool) (u : Unseen)
    → HasBlocks layout pages old.judging.query.table blocks → u.task s ≡ task_of layout old.judging.stage old.judging (scanning sees judged deletes old)
    → BeginsAt old.judging.stage (shown_by layout pages locks old.judging.query.table blocks) u (scanning sees judged deletes old)
    → SeesThere sight blocks sees old.next
    → (now : ℕ → ℕ → Option Bool)
    × ScanStepped s (shown_by layout pages locks old.judging.query.table blocks) u (account_at old.judging.stage)
    (table_scan layout new.judging (scanning sees now deletes new)) did

-- how each transaction stands by these statuses; the number 0 is none's, and stays unused: it is the deleter of a row that nobody deleted
abbrev pub stands_by : (first : ℕ) → List Status → ℕ → Status
stands_by first statuses t = if t == 0 then Unused else shown_status first statuses t

-- the statuses of the pages, where this opening began with that number
abbrev pub OfSight : DiskLayout → PageMap → Snapshot → (own first : ℕ) → (Sight → Type 0) → Type 0
OfSight layout pages snapshot own first P = (statuses : List Status) → HasStatuses layout pages statuses → P (record { snapshot = snapshot; own = own; status = stands_by first statuses })

-- the point is that of the stage; and a finished scan has no step left
abbrev pub IsPointIn : (old new : FindHand) → Did → Type 0
IsPointIn old new (did.Moved point) = (point ≡ point_at old.judging.stage) × IsScanning new.judging.stage new.next
IsPointIn old new (did.Finished point) = (point ≡ point_at old.judging.stage) × (new.judging.stage ≡ stages.Judged) × (new.next ≡ None)
IsPointIn old new (did.Blocked held) = ⊥
IsPointIn old new (did.NoRight by) = ⊥

-- what a step appends to the rows found: of the block that it reads, if it reads one, the visible matches
abbrev pub FindsThere : Sight → List (List Slot) → (old new : FindHand) → Option ℕ → Type 0
FindsThere sight blocks old new None = new.found ≡ old.found
FindsThere sight blocks old new (Some b) = new.found ≡ old.found ++ visible_matches sight old.judging.query b (stored_rows (slots_of blocks b))

-- the scan is one of a table of the layout, and has room for the rows of its pages
pub record IsFindOf (layout : DiskLayout) (hand : FindHand) : Type 0 where
  pub judging : IsScanOf layout hand.judging
  pub room : slots_a_page layout hand.judging.query.table ≤ hand.room

-- The next candidate from a block on.
pub record IsNextCandidate (candidates : List Bool) (from b : ℕ) : Type 0 where
  pub candidate : is_candidate candidates b ≡ true
  pub unread : from ≤ b
  pub first : (c : ℕ) → is_candidate candidates c ≡ true → from ≤ c → b ≤ c

abbrev pub IsNext : List Bool → (from : ℕ) → Option ℕ → Type 0
IsNext candidates from (Some b) = IsNextCandidate candidates from b
IsNext candidates from None = (c : ℕ) → from ≤ c → is_candidate candidates c ≡ false

-- A step that reads a block is done or refused as the page store does or refuses its reads, or lacks memory for the rows found, where no
-- disk fault was kept.
abbrev pub FindOutcome : {D T : Type 0} → (D → Told) → (Cause : Type 0) → View D → View D → (next : Option ℕ) → Result T MachineFault → Type 0
FindOutcome told Cause old new (Some b) (Err faults.Memory) = (old.failed ≡ None) × (new.failed ≡ None)
FindOutcome told Cause old new next result = ReadOutcome told Cause old new result

-- damage is told by the byte of the disk at which a page of statuses begins
abbrev pub FaultNamesStatuses : DiskLayout → MachineFault → Type 0
FaultNamesStatuses layout (faults.Store error) = NamesStatuses layout error
FaultNamesStatuses layout fault = Unit {0}

-- or the page of the block that is read, which the table may have
abbrev pub FaultNamesRead : DiskLayout → (table block : ℕ) → MachineFault → Type 0
FaultNamesRead layout table block (faults.Store error) =
    (IsPlace layout (record { relation = relation_of table; block = block }) × NamesPage layout (record { relation = relation_of table; block = block }) error) ⊎ NamesStatuses layout error
FaultNamesRead layout table block fault = Unit {0}

-- or, while ranges are judged, a page of the index whose range it is
abbrev pub FaultNamesNext : DiskLayout → FindHand → (next : Option ℕ) → MachineFault → Type 0
FaultNamesNext layout hand None fault = NamesPageAt layout hand.judging.indexes hand.judging.stage fault
FaultNamesNext layout hand (Some b) fault = FaultNamesRead layout hand.judging.query.table b fault

-- what a step at this point did, where that block is to be read next
abbrev pub did_at : Point → (next : Option ℕ) → Did
did_at point None = did.Finished point
did_at point (Some b) = did.Moved point

-- the places of what was found ascend, from one on, by block and then by slot
abbrev pub Ascend : (block slot : ℕ) → List (Row × Spot) → Type 0
Ascend block slot [] = Unit {0}
Ascend block slot (f ∷ found) = ((block < f.1.block) ⊎ ((block ≡ f.1.block) × (slot ≤ f.1.slot))) × Ascend f.1.block (f.1.slot + 1) found

-- more was found in one block, in order of slot
pub record FindsIn (block : ℕ) (old new : List (Row × Spot)) : Type 0 where
  pub more : List (Row × Spot)
  pub added : new ≡ old ++ more
  pub ascend : Ascend block 0 more
  pub there : All (λ (f : Row × Spot). f.1.block ≡ block) more

-- while ranges are judged nothing is read or found
abbrev pub ReadsNothing : FindHand → Type 0
ReadsNothing hand = (hand.read ≡ 0) × (hand.next ≡ None) × (hand.found ≡ [])

-- where the scan stands among the candidates
abbrev pub IsFindingAt : Stage → FindHand → Type 0
IsFindingAt stages.Judged hand = IsNext hand.judging.candidates hand.read hand.next
IsFindingAt stage hand = ReadsNothing hand

-- what holds of every scan: what it found stands in blocks that are read, which the table may have, each row once, in order of place
pub record IsFinding (hand : FindHand) : Type 0 where
  pub at : IsFindingAt hand.judging.stage hand
  pub read_within : hand.read ≤ length hand.judging.candidates
  pub ascend : Ascend 0 0 hand.found
  pub read : All (λ (f : Row × Spot). f.1.block < hand.read) hand.found
