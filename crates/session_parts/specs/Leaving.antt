-- what a step of a session leaves of the parts of a store
use Rattle.std.specs.Prelude.{◌≡◌, ◌≢◌, ◌⊎◌, ℕ, ◌<◌, false, IsTrue, List, length, Option, None, Some}
use Rattle.std.specs.FinMap as finite
use Rattle.block_model.specs.declared.place.Place.{Place as PagePlace}
use Rattle.block_model.specs.declared.place.Spot.{Spot}
use Rattle.block_model.specs.SerialRun.{IsLegal, serial_run}
use Rattle.store_layout.specs.DiskLayout.{DiskLayout}
use Rattle.page_layout.specs.PageContents.{Slot}
use Rattle.page_layout.specs.RowBytes.{StoredRow}
use Rattle.page_locks.specs.LockChanges.{GivesAll}
use Rattle.page_locks.specs.LockHolders.{holder}
use Rattle.page_locks.specs.RightHolders.{right_of}
use Rattle.page_map.specs.PageMap.{block_at, page_at}
use Rattle.recovery.specs.PageOrder.{IsIndexInOrder}
use Rattle.heap_rows.specs.Heaps.{relation_of as heap_of}
use Rattle.heap_rows.specs.RowPlaces.{slot_at}
use Rattle.snapshot_core.specs.declared.statuses.Status.{Status}
use Rattle.snapshot_core.specs.Visibility.{in_snapshot}
use Rattle.snapshot_core.specs.declared.sessions.Open.{Open}
use Rattle.snapshot_core.specs.StoredVersions.{transaction_of}
use Rattle.tx_table.specs.Statuses.{HasStatuses, status_relation}
use Rattle.transactions.specs.CountedRows.{counts as counts_of}
use Rattle.transactions.specs.ShowsDatabase.{ShowsDatabase}
use Rattle.transactions.specs.StoredRows.{StandsAt}
use Rattle.index_contents.specs.IndexContents.{contents, index_page, relation_of as index_relation}
use Rattle.coverage.specs.Accounts.{Account, Asked}
use Rattle.coverage.specs.Table.{Task}
use Rattle.coverage.specs.TableSteps.{SeesPlace}
use Rattle.script_semantics.specs.IndexTuples.{index_at}
use Rattle.script_semantics.specs.ShownIndex.{lock_in}
use Rattle.script_semantics.specs.SwapAnswers.{LeavesLocks}
use Rattle.brin_insert.specs.AskedFor.{AreRequestsOf}
use Rattle.bitmap_scan.specs.Finds.{Sight, sees_stored}
use Rattle.bitmap_scan.specs.SeenRows.{SeesLater}
use Rattle.script_semantics.specs.Names.{dropped_of}
use Rattle.script_semantics.specs.Place.{Hand as HandAt, Place, database_at}
use Rattle.session_parts.specs.FrontsStand.{FrontsStand}
use Rattle.session_parts.specs.RowsFollow.{RowsFollow}
use Rattle.session_parts.specs.FrontLaws.{OpensStay}
use Rattle.session_parts.specs.declared.hand.Hand.{Hand}
use Rattle.session_parts.specs.Hands.{HandShows}
use Rattle.session_parts.specs.HandsAsk.{HandAsked, IsNoInsert}
use Rattle.session_parts.specs.HandsInTables.{sight_of, table_in}
use Rattle.session_parts.specs.ShowsPlace.{IsOfTransaction}
use Rattle.session_parts.specs.StoreStates.{ShownStore, dropped_in, hand_in}

-- A step of session n leaves the layout, the names, the first number of this opening, and what the other sessions have in hand and as transactions.
pub record LeavesOthers (n : ℕ) (old new : ShownStore) : Type 0 where
  pub layout : new.layout ≡ old.layout
  pub names : new.names ≡ old.names
  pub first : new.transactions.tx.first ≡ old.transactions.tx.first
  pub hands : (m : ℕ) → m ≢ n → hand_in new.hands m ≡ hand_in old.hands m
  pub opens : (m : ℕ) → m ≢ n → transaction_of new.transactions.opens m ≡ transaction_of old.transactions.opens m

-- the relation is the table's heap, or one of its indexes
abbrev pub IsRelationOf : DiskLayout → (table relation : ℕ) → Type 0
IsRelationOf layout table relation = (relation ≡ heap_of table)
    ⊎ ((index : ℕ) × (index < length layout.schema.indexes) × ((index_at layout index).table ≡ table) × (relation ≡ index_relation layout index))

-- The locks are as they were; or they changed as a step in a relation of this table changes them; or session n gave all of its own.
pub data ChangesLocks (n table : ℕ) (old new : ShownStore) : Type 0 where
  SameLocks : new.locks ≡ old.locks → ChangesLocks n table old new
  LocksIn : (relation : ℕ) → IsRelationOf old.layout table relation → LeavesLocks (holder old.locks) (holder new.locks) relation n → ChangesLocks n table old new
  GivesLocks : GivesAll (holder old.locks) (holder new.locks) n → ChangesLocks n table old new

-- A step of session n in this table changes no page of a relation that isn't the table's, and no summarise lock but the table's; and the session is
-- at nothing in any other table, before it and after it.
pub record StepsInTable (n table : ℕ) (old new : ShownStore) : Type 0 where
  pub below : table < length old.layout.schema.tables
  pub pages : (place : PagePlace) → (IsRelationOf old.layout table place.relation → ⊥) → page_at new.pages place ≡ page_at old.pages place
  pub locks : ChangesLocks n table old new
  pub rights : (other : ℕ) → other ≢ table → right_of new.rights other ≡ right_of old.rights other
  pub was_in : (other : ℕ) → table_in old.layout (hand_in old.hands n) ≡ Some other → other ≡ table
  pub is_in : (other : ℕ) → table_in old.layout (hand_in new.hands n) ≡ Some other → other ≡ table

-- A step in no table changes no page but those of statuses, no lock, and the session is at nothing in any table, before it and after it.
pub record StepsAtOnce (n : ℕ) (old new : ShownStore) : Type 0 where
  pub pages : (place : PagePlace) → place.relation ≢ status_relation → page_at new.pages place ≡ page_at old.pages place
  pub locks : new.locks ≡ old.locks
  pub rights : new.rights ≡ old.rights
  pub was_in : (table : ℕ) → table_in old.layout (hand_in old.hands n) ≡ Some table → ⊥
  pub is_in : (table : ℕ) → table_in old.layout (hand_in new.hands n) ≡ Some table → ⊥

-- no row of a table is of that transaction
abbrev pub HasNoRows : ShownStore → (t : ℕ) → Type 0
HasNoRows s t = (table : ℕ) (spot : Spot) (row : StoredRow) → table < length s.layout.schema.tables → StandsAt s.layout s.pages table spot row → row.id.t ≢ t

-- rows come to count only where there are none
abbrev pub CountsFew : (old new : ShownStore) → (stored later : List Status) → Type 0
CountsFew old new stored later = (t : ℕ) → IsTrue (counts_of new.transactions later t) → IsTrue (counts_of old.transactions stored t) ⊎ HasNoRows old t

-- each other session's transaction sees by these statuses as it did
abbrev pub SeeAlike : (n : ℕ) → (old new : ShownStore) → (stored later : List Status) → Type 0
SeeAlike n old new stored later = (m : ℕ) (o : Open) → m ≢ n → transaction_of old.transactions.opens m ≡ Some o
    → SeesLater (sight_of old.transactions.tx stored o) (sight_of new.transactions.tx later o)

-- each row that stands in a slot stays there, marked perhaps
abbrev pub RowsStay : (old new : List (List Slot)) → Type 0
RowsStay old new = (spot : Spot) (row : StoredRow) → slot_at old spot ≡ Some row
    → (now : StoredRow) × (slot_at new spot ≡ Some now) × (now.id ≡ row.id) × (now.values ≡ row.values)

-- A row that stands in a slot stood there, and is seen where it was; or it came to a free slot, and isn't seen.
abbrev pub SeesSlots : Sight → (old new : List (List Slot)) → Type 0
SeesSlots sight old new = (spot : Spot) (now : StoredRow) → slot_at new spot ≡ Some now
    → ((row : StoredRow) × (slot_at old spot ≡ Some row) × (sees_stored sight now ≡ sees_stored sight row)) ⊎ ((slot_at old spot ≡ None) × (sees_stored sight now ≡ false))

-- each row that a statement at this task sees stays so
abbrev pub SeenRowsStay : Task → (old new : List (List Slot)) → Type 0
SeenRowsStay task old new = (spot : Spot) (row : StoredRow) → SeesPlace spot.block spot.slot task → slot_at old spot ≡ Some row
    → (now : StoredRow) × (slot_at new spot ≡ Some now) × (now.id ≡ row.id) × (now.values ≡ row.values)

-- the snapshot hasn't got the deleter of a row that stands in a slot, where it hadn't got that of the row before
abbrev pub LacksDeleters : Sight → (old new : List (List Slot)) → Type 0
LacksDeleters sight old new = (spot : Spot) (row now : StoredRow) → slot_at old spot ≡ Some row → slot_at new spot ≡ Some now
    → in_snapshot sight.snapshot row.deleter (sight.status row.deleter) ≡ false → in_snapshot sight.snapshot now.deleter (sight.status now.deleter) ≡ false

-- what each other session's statement sees stays, and its transaction sees of the slots what it saw
pub record SeenSlotsStay (n : ℕ) (s : ShownStore) (tasks : ℕ → Task) (stored : List Status) (old new : List (List Slot)) : Type 0 where
  pub rows : (m : ℕ) → m ≢ n → SeenRowsStay (tasks m) old new
  pub seen : (m : ℕ) (o : Open) → m ≢ n → transaction_of s.transactions.opens m ≡ Some o → SeesSlots (sight_of s.transactions.tx stored o) old new
  pub lacks : (m : ℕ) (o : Open) → m ≢ n → transaction_of s.transactions.opens m ≡ Some o → LacksDeleters (sight_of s.transactions.tx stored o) old new

-- rows stay, and each other session's transaction sees of the slots what it saw
pub record SlotsStay (n : ℕ) (s : ShownStore) (stored : List Status) (old new : List (List Slot)) : Type 0 where
  pub rows : RowsStay old new
  pub seen : (m : ℕ) (o : Open) → m ≢ n → transaction_of s.transactions.opens m ≡ Some o → SeesSlots (sight_of s.transactions.tx stored o) old new
  pub lacks : (m : ℕ) (o : Open) → m ≢ n → transaction_of s.transactions.opens m ≡ Some o → LacksDeleters (sight_of s.transactions.tx stored o) old new

-- A step begins and ends no transaction: the pages of statuses stay, each open transaction was open with its number and its snapshot, and rows go on.
pub record StaysWithin (old new : ShownStore) : Type 0 where
  pub statuses : (block : ℕ) → block_at new.pages status_relation block ≡ block_at old.pages status_relation block
  pub first : new.transactions.tx.first ≡ old.transactions.tx.first
  pub opens : OpensStay old.transactions new.transactions
  pub rows : RowsFollow old.layout old.pages new.pages old.transactions

-- Whichever statuses the pages have then, they and the snapshots stand to the fronts of the journal: in each place that has it, with the opening of this one.
abbrev pub FrontsThen : (old new : ShownStore) → Place → Type 0
FrontsThen old new p = (stored : List Status) (q : Place) → HasStatuses old.layout new.pages stored → q.opening ≡ p.opening → q.journal ≡ new.entries
    → FrontsStand old.layout new.pages new.transactions stored q

-- What a step of session n leads to: the parts show the database of the journal then, which is legal, and stand to its fronts; the other sessions' copies
-- stay; the session has this in hand, with this to tell; and the pages of each index stay in order.
pub record LeadsTo (old new : ShownStore) (p : Place) (n : ℕ) (at : Option HandAt) (account : Account) : Type 0 where
  pub database : ShowsDatabase old.layout new.pages new.transactions (serial_run p.opening new.entries)
  pub legal : IsLegal p.opening new.entries
  pub fronts : FrontsThen old new p
  pub copies : (m : ℕ) → m ≢ n → finite.get (serial_run p.opening new.entries).sessions m ≡ finite.get (database_at p).sessions m
  pub hand : HandShows (hand_in new.hands n) at account
  pub own : (hand : Hand) → hand_in new.hands n ≡ Some hand
      → IsOfTransaction (transaction_of new.transactions.opens n) (finite.get (serial_run p.opening new.entries).sessions n) hand
  pub order : (index : ℕ) → index < length old.layout.schema.indexes → IsIndexInOrder old.layout.sizes.index_blocks (index_page old.layout old.pages index)
      → IsIndexInOrder old.layout.sizes.index_blocks (index_page old.layout new.pages index)

-- A step of session n asks for no summary: the requests stay, and so does what each session's latest insert asked for in vain; and no insert is in hand then.
pub record AsksForNone (n : ℕ) (old new : ShownStore) (p : Place) (account : Account) : Type 0 where
  pub queue : new.queue ≡ old.queue
  pub dropped : new.dropped ≡ old.dropped
  pub told : account.dropped ≡ (p.accounts n).dropped
  pub hand : IsNoInsert (hand_in new.hands n)

-- Behind a step of session n these are the summaries that are asked for, and what it asked for in vain is what it has to tell; that of the others stays.
pub record HasAsked (n : ℕ) (old new : ShownStore) (account : Account) (queue : List Asked) : Type 0 where
  pub requests : AreRequestsOf old.layout new.queue queue
  pub told : dropped_in new.dropped n ≡ dropped_of old.layout account.dropped
  pub others : (m : ℕ) → m ≢ n → dropped_in new.dropped m ≡ dropped_in old.dropped m
  pub hand : HandAsked old.layout (hand_in new.hands n) account.dropped

-- A step of session n leaves a table: the pages of its heap, what its indexes have and who locks their pages, and who holds its summarise lock; and the session is
-- at nothing there, before it and after it.
pub record LeavesTable (n table : ℕ) (old new : ShownStore) : Type 0 where
  pub heap : (block : ℕ) → block_at new.pages (heap_of table) block ≡ block_at old.pages (heap_of table) block
  pub indexes : (index : ℕ) → index < length old.layout.schema.indexes → (index_at old.layout index).table ≡ table
      → contents old.layout new.pages index ≡ contents old.layout old.pages index
  pub locks : (index page : ℕ) → index < length old.layout.schema.indexes → (index_at old.layout index).table ≡ table
      → lock_in old.layout new.locks index page ≡ lock_in old.layout old.locks index page
  pub right : right_of new.rights table ≡ right_of old.rights table
  pub was_in : table_in old.layout (hand_in old.hands n) ≢ Some table
  pub is_in : table_in old.layout (hand_in new.hands n) ≢ Some table
