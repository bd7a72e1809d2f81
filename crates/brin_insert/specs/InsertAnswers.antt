-- what a step of an insert makes of its table, what it leaves, and when each error comes
use Rattle.std.specs.Prelude.{◌≡◌, ◌≢◌, ℕ, ◌+◌, ◌*◌, ◌/◌, List, Option, None, Some}
use Rattle.block_model.specs.declared.place.Place.{Place}
use Rattle.block_model.specs.declared.place.Spot.{Spot}
use Rattle.block_model.specs.declared.reply.Point.{Point}
use Rattle.block_model.specs.declared.row.Row.{Row}
use Rattle.store_layout.specs.DiskLayout.{DiskLayout, IsPlace, page_offset}
use Rattle.disk_trait.specs.Told.{Told}
use Rattle.page_layout.specs.PageContents.{Slot}
use Rattle.page_map.specs.declared.faults.MachineFault.{MachineFault}
use Rattle.page_map.specs.declared.faults.MachineFault.TheVariants as faults
use Rattle.page_map.specs.declared.faults.StoreError.TheVariants as errors
use Rattle.page_map.specs.Keeps.{Keeps, Leaves, Tells}
use Rattle.page_map.specs.PageMap.{PageMap, View, page_at}
use Rattle.page_locks.specs.declared.did.Did.{Did}
use Rattle.page_locks.specs.declared.did.Did.TheVariants as did
use Rattle.page_locks.specs.LockHolders.{LockState, holder}
use Rattle.heap_rows.specs.HeapBlocks.{HasBlocks}
use Rattle.heap_rows.specs.Heaps.{relation_of as heap_of, slots_a_page}
use Rattle.heap_rows.specs.RowPlaces.{FillsSlot, new_row, place_for}
use Rattle.heap_rows.specs.RowPut.{IsSpotOf}
use Rattle.coverage.specs.Accounts.{AccountIs, Accounts, Adds, Asking, no_account}
use Rattle.coverage.specs.GoingOn.{IsInserting}
use Rattle.coverage.specs.Machines.{ShownTable, Unseen, table_state, task_turned}
use Rattle.coverage.specs.Refusals.{IsTaskFull}
use Rattle.coverage.specs.Table.{Asks, Task, TableState, Resting}
use Rattle.coverage.specs.TableCovered.{IsTableKept}
use Rattle.coverage.specs.TablePoints.{PageLock, does_point, waits_for}
use Rattle.coverage.specs.TableSteps.{Does, IsBlocked, IsHeapFull, Settles}
use Rattle.index_contents.specs.IndexContents.{relation_of as index_relation}
use Rattle.brin_insert.specs.declared.insert.Insert.{Insert}
use Rattle.brin_insert.specs.InsertHands.{InsertHand}
use Rattle.brin_insert.specs.Inserts.{HasStepLeft, task_of, work_of}
use Rattle.brin_insert.specs.RowSteps.{blocks_with}
use Rattle.index_steps.specs.ShownRows.{shown_by}

-- What the session does is printed under this point, and this comes of the accounts.
pub record DoesWith (s : ℕ) (w v : TableState) (point : Point) (Comes : Accounts → Accounts → Type 0) : Type 0 where
  pub does : Does s w v
  pub point_is : does_point s w v does ≡ Some point
  pub adds : (a c : Accounts) → Comes a c → Adds s w v does a c

-- A statement begins with an empty account. Where an insert asks for a summary, it asks for that of the range before its row's; no other step of
-- it makes anything of its account or of the queue.
abbrev pub AccountsCome : (s : ℕ) → ShownTable → (before : Task) → Accounts → Accounts → Type 0
AccountsCome s shown Resting a c = AccountIs s a c no_account
AccountsCome s shown (Asks b k r at) a c = (range : ℕ) × (b / (shown.index at).pages_per_range ≡ range + 1)
    × Asking s a c (record { table = a.table; at = at; range = range }) ((shown.index at).entry range)
AccountsCome s shown before a c = AccountIs s a c (a.of s)

-- Whatever the pages and locks don't show, this is a step of the table: the session's insert comes from one task to the other, under this
-- point; nothing else changes than what they show.
abbrev pub InsertGoesTo : (s : ℕ) → (old new : ShownTable) → (before after : Task) → Point → Type 0
InsertGoesTo s old new before after point = (u : Unseen) → u.task s ≡ before → IsTableKept (table_state old u)
    → (between : Task) × DoesWith s (table_state old u) (table_state new (task_turned s between u)) point (AccountsCome s old before)
    × Settles s (table_state new (task_turned s between u)) (table_state new (task_turned s after u))

-- it waits for the lock of this page of the index of that place among the table's
abbrev pub InsertWaitsFor : (s : ℕ) → ShownTable → Task → (at page : ℕ) → Type 0
InsertWaitsFor s shown task at page = (u : Unseen) → u.task s ≡ task → IsTableKept (table_state shown u)
    → (blocked : IsBlocked (table_state shown u) s task) × (waits_for (table_state shown u) s task blocked ≡ PageLock at page)

-- What came of a step: the insert goes on, or is complete, or waits where it stood.
abbrev pub InsertDid : (s at : ℕ) → (old new : ShownTable) → (before after : Task) → Did → Type 0
InsertDid s at old new before after (did.Moved point) = InsertGoesTo s old new before after point × IsInserting after
InsertDid s at old new before after (did.Finished point) = InsertGoesTo s old new before after point × (after ≡ Resting)
InsertDid s at old new before after (did.Blocked held) = InsertWaitsFor s old before at held.page.block × (after ≡ before)
InsertDid s at old new before after (did.NoRight by) = ⊥

-- the blocks of the heap after a step: with the row, which nobody deleted, where the step put it
abbrev pub heap_after : DiskLayout → Row → (was now : Option Spot) → List (List Slot) → List (List Slot)
heap_after layout r (Some x) now blocks = blocks
heap_after layout r None None blocks = blocks
heap_after layout r None (Some spot) blocks = blocks_with layout r.table r.id r.values spot blocks

-- where the row stands after a step: where it stood, and else at a spot that it has from then on
abbrev pub StandsPlaced : (was now : Option Spot) → Type 0
StandsPlaced None now = (x : Spot) × (now ≡ Some x)
StandsPlaced (Some x) now = now ≡ Some x

-- a row that stood nowhere comes to the first free slot of its heap
abbrev pub TakesFirstPlace : DiskLayout → (was now : Option Spot) → List (List Slot) → Type 0
TakesFirstPlace layout None now blocks = place_for layout.sizes.heap_blocks blocks ≡ now
TakesFirstPlace layout (Some x) now blocks = Unit {0}

-- to one that its heap may have
abbrev pub TakesPlaceWithin : DiskLayout → (table : ℕ) → (was now : Option Spot) → Type 0
TakesPlaceWithin layout table None (Some spot) = IsSpotOf layout table spot
TakesPlaceWithin layout table was now = Unit {0}

-- and to one that was free, while every other slot stays
abbrev pub TakesItsSlot : DiskLayout → Row → (was now : Option Spot) → List (List Slot) → Type 0
TakesItsSlot layout r None (Some spot) blocks = FillsSlot (slots_a_page layout r.table) spot (new_row r.id r.values) blocks
TakesItsSlot layout r was now blocks = Unit {0}

-- So it is of the table that pages and locks showed, whose heap had these blocks, and that they show then. Where the row is put, its slot
-- was free, and every other one stays.
pub record InsertStepped (layout : DiskLayout) (pages paged : PageMap) (locks locked : LockState) (s : ℕ) (old new : Insert) (answer : Did) (blocks : List (List Slot)) : Type 0 where
  pub has : HasBlocks layout paged old.row.table (heap_after layout old.row old.place new.place blocks)
  pub slot : TakesItsSlot layout old.row old.place new.place blocks
  pub came : InsertDid s old.at (shown_by layout pages locks old.row.table blocks) (shown_by layout paged locked old.row.table (heap_after layout old.row old.place new.place blocks))
      (task_of layout old) (task_of layout new) answer

-- it has a step left exactly where it isn't complete; it waits for no summarise lock
abbrev pub IsLeftBy : Insert → Did → Type 0
IsLeftBy insert (did.Moved point) = HasStepLeft insert
IsLeftBy insert (did.Finished point) = HasStepLeft insert → ⊥
IsLeftBy insert (did.Blocked held) = HasStepLeft insert
IsLeftBy insert (did.NoRight by) = ⊥

-- the relation that its next step may change: the heap's, or that of the index that it is at
abbrev pub relation_in : DiskLayout → (table : ℕ) → Option Spot → Option InsertHand → ℕ
relation_in layout table None work = heap_of table
relation_in layout table (Some x) None = heap_of table
relation_in layout table (Some x) (Some hand) = index_relation layout hand.index

abbrev pub relation_at : DiskLayout → Insert → ℕ
relation_at layout insert = relation_in layout insert.row.table insert.place (work_of insert)

-- what every call of the page store leaves; and where the disk tells its contents, the pages of every other relation
pub record LeavesOtherRelations {D : Type 0} (told : D → Told) (relation : ℕ) (old new : View D) : Type 0 where
  pub leaves : Leaves told old new
  pub pages : Tells told old → (place : Place) → place.relation ≢ relation → page_at new.pages place ≡ page_at old.pages place

-- where a step is blocked nothing changes, and another actor holds the lock of a page of the relation
abbrev pub BlockedOn : {D : Type 0} → (D → Told) → (relation actor : ℕ) → View D → View D → LockState → LockState → Did → Type 0
BlockedOn told relation actor old new before after (did.Blocked held) =
    (held.page.relation ≡ relation) × (holder before held.page ≡ Some held.by) × (held.by ≢ actor) × (after ≡ before) × Keeps told old new
BlockedOn told relation actor old new before after answer = Unit {0}

-- the step that puts the row waits for no lock
abbrev pub WaitsForNoRow : Option Spot → Did → Type 0
WaitsForNoRow None (did.Blocked held) = ⊥
WaitsForNoRow place answer = Unit {0}

-- no place is left for the row, of so many; or no page of the index for the tuple with the row, of so many
abbrev pub IsInsertFull : (s at : ℕ) → ShownTable → Task → (number : ℕ) → Type 0
IsInsertFull s at shown Resting number = (number ≡ shown.heap_limit * shown.rows_per_page) × ((u : Unseen) → IsHeapFull (table_state shown u))
IsInsertFull s at shown task number = (u : Unseen) → u.task s ≡ task → IsTableKept (table_state shown u) → IsTaskFull (table_state shown u) s task at number

-- a full relation is told by its number, and only where it is full
abbrev pub SaysInsertFull : (relation : ℕ) → (IsFullBy : ℕ → Type 0) → MachineFault → Type 0
SaysInsertFull relation IsFullBy (faults.Full told number) = (told ≡ relation) × IsFullBy number
SaysInsertFull relation IsFullBy fault = Unit {0}

-- damage is told by the byte at which a page begins that the relation may have
abbrev pub FaultNamesRelation : DiskLayout → (relation : ℕ) → MachineFault → Type 0
FaultNamesRelation layout relation (faults.Store (errors.Damaged at)) = (block : ℕ) × IsPlace layout (record { relation = relation; block = block }) × (at ≡ page_offset layout (record { relation = relation; block = block }))
FaultNamesRelation layout relation fault = Unit {0}
