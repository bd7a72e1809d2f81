-- how pages, numbers and open transactions show a database, whatever pages they are
use Rattle.std.specs.Prelude.{◌≡◌, ◌≢◌, ℕ, ◌<◌, ◌≤◌, ◌⊎◌, Bool, true, false, not, ◌&&◌, ◌||◌, ◌==◌, List, map, set, length, replicate, None, Some, IsPermutation, IsSorted}
use Rattle.std.specs.FinMap as maps
use Rattle.block_model.specs.declared.place.Spot.{Spot}
use Rattle.block_model.specs.declared.request.Request.TheVariants as requests
use Rattle.block_model.specs.declared.request.Tag.TheVariants as tags
use Rattle.block_model.specs.declared.row.Query.{Query}
use Rattle.block_model.specs.declared.row.Row.{Row}
use Rattle.block_model.specs.declared.row.RowId.{RowId}
use Rattle.block_model.specs.declared.value.Value.{Value}
use Rattle.block_model.specs.DatabaseState.{DatabaseState, OpenTransaction, initial_state}
use Rattle.block_model.specs.RequestEffect as model
use Rattle.block_model.specs.TableState.{id_cmp}
use Rattle.store_layout.specs.declared.limits.TheConstants.{MAX_SESSIONS}
use Rattle.store_layout.specs.StatementRequests.{request_entry, tagged_entry}
use Rattle.store_layout.specs.DiskLayout.{DiskLayout}
use Rattle.page_layout.specs.PageContents.{IsUnstarted, Slot}
use Rattle.page_layout.specs.PageWrites.{marked}
use Rattle.page_layout.specs.RowBytes.{StoredRow}
use Rattle.page_map.specs.PageMap.{PageMap, block_at}
use Rattle.heap_rows.specs.Heaps.{relation_of}
use Rattle.heap_rows.specs.HeapBlocks.{HasBlocks}
use Rattle.heap_rows.specs.RowPlaces.{new_row}
use Rattle.snapshot_core.specs.declared.statuses.Status.{Status}
use Rattle.snapshot_core.specs.declared.statuses.Status.TheVariants as status
use Rattle.snapshot_core.specs.Visibility.{had_ended, has_done, is_committed}
use Rattle.snapshot_core.specs.declared.sessions.Open.{Open}
use Rattle.snapshot_core.specs.SessionChanges.{ended}
use Rattle.snapshot_core.specs.StoredVersions.{transaction_of}
use Rattle.tx_table.specs.Durable.{HasPart}
use Rattle.tx_table.specs.LeavesRest.{AreStarted}
use Rattle.tx_table.specs.Statuses.{HasStatuses, number_limit, status_relation}
use Rattle.tx_table.specs.TxState.{IsNext}
use Rattle.transactions.specs.CountedRows.{counts}
use Rattle.transactions.specs.FoundRows.{AreFound}
use Rattle.transactions.specs.GivenStatuses.{given_status}
use Rattle.transactions.specs.Sessions.{HaveTransactions, committed_by}
use Rattle.transactions.specs.ShowsDatabase.{DoesRequest, ShowsDatabase}
use Rattle.transactions.specs.StoredRows.{MarksRowAt, PutsRow, StandsAt, StandsOnce, conflicts_with, row_of, sees_row}
use Rattle.transactions.specs.TransactionsState.{TransactionsState, with_begun, with_failed, with_open, with_row_counted}

-- two databases that are shown alike are one
abbrev pub IsOneDatabase : Type 0
IsOneDatabase = (layout : DiskLayout) (pages : PageMap) (t : TransactionsState) (a b : DatabaseState) → ShowsDatabase layout pages t a → ShowsDatabase layout pages t b → a ≡ b

-- a row that a session's transaction put is shown as its put
abbrev pub PutIsShown : Type 0
PutIsShown = (layout : DiskLayout) (old new : PageMap) (t : TransactionsState) (s : DatabaseState) (session table : ℕ) (o : Open) (spot : Spot) (values : List Value)
    → ShowsDatabase layout old t s → transaction_of t.opens session ≡ Some o → table < length layout.schema.tables
    → PutsRow layout old new table spot (new_row (record { t = o.t; k = o.next_k }) values)
    → DoesRequest layout new (with_row_counted t session o) s (request_entry session table (requests.Put values)) (model.Inserted (record { t = o.t; k = o.next_k }))

-- The transaction may mark the row: it is in its copy, and whether another stands in the way is as said.
pub record IsMarking (layout : DiskLayout) (pages : PageMap) (t : TransactionsState) (s : DatabaseState) (session table : ℕ) (o : Open) (row : StoredRow) (conflict : Bool) : Type 0 where
  pub shows : ShowsDatabase layout pages t s
  pub opened : transaction_of t.opens session ≡ Some o
  pub below : table < length layout.schema.tables
  pub copy : OpenTransaction
  pub under_way : maps.get s.sessions session ≡ Some copy
  pub in_copy : maps.contains_key copy.view row.id ≡ true
  pub stored : List Status
  pub has : HasStatuses layout pages stored
  pub conflicts : conflicts_with t.tx.first stored o.t row ≡ conflict

-- a row that a session's transaction marked without a conflict is shown as its mark
abbrev pub MarkIsShown : Type 0
MarkIsShown = (layout : DiskLayout) (old new : PageMap) (t : TransactionsState) (s : DatabaseState) (session table : ℕ) (o : Open) (spot : Spot) (row : StoredRow)
    → IsMarking layout old t s session table o row false → MarksRowAt layout old new table spot row o.t
    → DoesRequest layout new t s (request_entry session table (requests.Mark row.id)) model.Marked

-- where there is a conflict, the session's transaction fails
abbrev pub ConflictIsShown : Type 0
ConflictIsShown = (layout : DiskLayout) (pages : PageMap) (t : TransactionsState) (s : DatabaseState) (session table : ℕ) (o : Open) (spot : Spot) (row : StoredRow)
    → IsMarking layout pages t s session table o row true → StandsAt layout pages table spot row
    → DoesRequest layout pages (with_failed t session o) s (request_entry session table (requests.Mark row.id)) (model.Conflict row.id)

-- pages with the same statuses and tables show alike, whatever other pages they have
abbrev pub ShowAlike : Type 0
ShowAlike = (layout : DiskLayout) (old new : PageMap) (t : TransactionsState) (s : DatabaseState)
    → ((block : ℕ) → block_at new status_relation block ≡ block_at old status_relation block)
    → ((table block : ℕ) → table < length layout.schema.tables → block_at new (relation_of table) block ≡ block_at old (relation_of table) block)
    → ShowsDatabase layout old t s → ShowsDatabase layout new t s

-- a session's transaction that has failed is shown as its failure
abbrev pub FailureIsShown : Type 0
FailureIsShown = (layout : DiskLayout) (pages : PageMap) (t : TransactionsState) (s : DatabaseState) (session : ℕ) (o : Open) (x : OpenTransaction)
    → ShowsDatabase layout pages t s → transaction_of t.opens session ≡ Some o → maps.get s.sessions session ≡ Some x
    → ShowsDatabase layout pages (with_failed t session o) (model.after_failure s session x)

-- so fails a transaction whose put finds no room or no memory, or whose look finds no memory
pub record FailsOnly (s : DatabaseState) (session table : ℕ) (x : OpenTransaction) : Type 0 where
  pub full : (values : List Value) → model.effect s (tagged_entry session table (requests.Put values) tags.Full) ≡ (model.after_failure s session x, model.Full)
  pub short : (values : List Value) → model.effect s (tagged_entry session table (requests.Put values) tags.NoMemory) ≡ (model.after_failure s session x, model.NoMemory)
  pub blind : (query : Query) → model.effect s (tagged_entry session table (requests.Look query) tags.NoMemory) ≡ (model.after_failure s session x, model.NoMemory)

abbrev pub RefusalIsFailure : Type 0
RefusalIsFailure = (s : DatabaseState) (session table : ℕ) (x : OpenTransaction) → maps.get s.sessions session ≡ Some x → FailsOnly s session table x

-- each session has its open transaction in the database
abbrev pub SessionsAreShown : Type 0
SessionsAreShown = (layout : DiskLayout) (pages : PageMap) (t : TransactionsState) (s : DatabaseState) → ShowsDatabase layout pages t s → HaveTransactions t s

-- a row is in the copy of the tables where its transaction sees it, and is the row that is stored
pub record IsSeenInCopy (table : ℕ) (x : OpenTransaction) (row : StoredRow) (sees : Bool) : Type 0 where
  pub seen : maps.contains_key x.view row.id ≡ sees
  pub is : sees ≡ true → maps.get x.view row.id ≡ Some (row_of table row)

abbrev pub CopyIsSeen : Type 0
CopyIsSeen = (layout : DiskLayout) (pages : PageMap) (t : TransactionsState) (s : DatabaseState) (stored : List Status) (session table : ℕ) (o : Open) (x : OpenTransaction) (spot : Spot) (row : StoredRow)
    → ShowsDatabase layout pages t s → HasStatuses layout pages stored → transaction_of t.opens session ≡ Some o → maps.get s.sessions session ≡ Some x
    → table < length layout.schema.tables → StandsAt layout pages table spot row → IsSeenInCopy table x row (sees_row t.tx.first stored o row)

-- each row of a copy stands in one slot of its table
abbrev pub CopyStands : Type 0
CopyStands = (layout : DiskLayout) (pages : PageMap) (t : TransactionsState) (s : DatabaseState) (session : ℕ) (x : OpenTransaction) (id : RowId) (row : Row)
    → ShowsDatabase layout pages t s → maps.get s.sessions session ≡ Some x → maps.get x.view id ≡ Some row
    → (row.table < length layout.schema.tables) × (row.id ≡ id) × StandsOnce layout pages row.table row

-- a row's transaction is one that has begun, and so is its deleter, where it has one
pub record IsOfTransactions (t : TransactionsState) (stored : List Status) (row : StoredRow) : Type 0 where
  pub put : row.id.t < t.tx.next
  pub used : given_status t.tx.first stored row.id.t ≢ status.Unused
  pub gone : row.deleter < t.tx.next
  pub deleted : row.deleter ≢ 0 → given_status t.tx.first stored row.deleter ≢ status.Unused

abbrev pub RowIsOfTransactions : Type 0
RowIsOfTransactions = (layout : DiskLayout) (pages : PageMap) (t : TransactionsState) (s : DatabaseState) (stored : List Status) (table : ℕ) (spot : Spot) (row : StoredRow)
    → ShowsDatabase layout pages t s → HasStatuses layout pages stored → table < length layout.schema.tables → StandsAt layout pages table spot row → IsOfTransactions t stored row

-- no two rows of any tables have one id
abbrev pub IdsDiffer : Type 0
IdsDiffer = (layout : DiskLayout) (pages : PageMap) (t : TransactionsState) (s : DatabaseState) (table other : ℕ) (spot there : Spot) (row stands : StoredRow)
    → ShowsDatabase layout pages t s → table < length layout.schema.tables → other < length layout.schema.tables
    → StandsAt layout pages table spot row → StandsAt layout pages other there stands → row.id ≡ stands.id → (table ≡ other) × (spot ≡ there) × (row ≡ stands)

-- ---- which rows count

-- the rows that a transaction sees that hasn't failed
abbrev pub SeenRowCounts : Type 0
SeenRowCounts = (t : TransactionsState) (stored : List Status) (session : ℕ) (o : Open) (row : StoredRow)
    → transaction_of t.opens session ≡ Some o → o.failed ≡ false → sees_row t.tx.first stored o row ≡ true → counts t stored row.id.t ≡ true

-- with a begin also those of the number that it gives
abbrev pub BeginCounts : Type 0
BeginCounts = (layout : DiskLayout) (pages : PageMap) (t : TransactionsState) (s : DatabaseState) (stored : List Status) (session u : ℕ)
    → ShowsDatabase layout pages t s → HasStatuses layout pages stored → session < MAX_SESSIONS → transaction_of t.opens session ≡ None → t.tx.next < number_limit layout
    → counts (with_begun t session) (set stored t.tx.next status.Begun) u ≡ (counts t stored u || (u == t.tx.next))

-- after a commit the same, also where the transaction had failed
abbrev pub CommitCounts : Type 0
CommitCounts = (layout : DiskLayout) (pages : PageMap) (t : TransactionsState) (s : DatabaseState) (stored : List Status) (session u : ℕ) (o : Open)
    → ShowsDatabase layout pages t s → HasStatuses layout pages stored → transaction_of t.opens session ≡ Some o
    → counts (with_open t session None) (set stored o.t (ended o.failed)) u ≡ counts t stored u

-- after a rollback those of every other transaction
abbrev pub RollbackCounts : Type 0
RollbackCounts = (layout : DiskLayout) (pages : PageMap) (t : TransactionsState) (s : DatabaseState) (stored : List Status) (session u : ℕ) (o : Open)
    → ShowsDatabase layout pages t s → HasStatuses layout pages stored → transaction_of t.opens session ≡ Some o
    → counts (with_open t session None) (set stored o.t status.RolledBack) u ≡ (counts t stored u && not (u == o.t))

-- and after a failure
abbrev pub FailureCounts : Type 0
FailureCounts = (layout : DiskLayout) (pages : PageMap) (t : TransactionsState) (s : DatabaseState) (stored : List Status) (session u : ℕ) (o : Open)
    → ShowsDatabase layout pages t s → HasStatuses layout pages stored → transaction_of t.opens session ≡ Some o
    → counts (with_failed t session o) stored u ≡ (counts t stored u && not (u == o.t))

-- a put changes none
abbrev pub PutCounts : Type 0
PutCounts = (t : TransactionsState) (stored : List Status) (session u : ℕ) (o : Open) → transaction_of t.opens session ≡ Some o → counts (with_row_counted t session o) stored u ≡ counts t stored u

-- ---- what the others see

-- whoever had ended at a snapshot of an open transaction has committed after a begin exactly where it had before
abbrev pub BeginIsUnseen : Type 0
BeginIsUnseen = (layout : DiskLayout) (pages : PageMap) (t : TransactionsState) (s : DatabaseState) (stored : List Status) (u : ℕ)
    → ShowsDatabase layout pages t s → HasStatuses layout pages stored → t.tx.next < number_limit layout
    → is_committed (given_status t.tx.first (set stored t.tx.next status.Begun) u) ≡ is_committed (given_status t.tx.first stored u)

-- and after the end of another one, whichever it was
abbrev pub EndIsUnseen : Type 0
EndIsUnseen = (layout : DiskLayout) (pages : PageMap) (t : TransactionsState) (s : DatabaseState) (stored : List Status) (session other u : ℕ) (o p : Open) (end : Status)
    → ShowsDatabase layout pages t s → transaction_of t.opens session ≡ Some o → transaction_of t.opens other ≡ Some p → other ≢ session → had_ended p.snapshot u ≡ true
    → is_committed (given_status t.tx.first (set stored o.t end) u) ≡ is_committed (given_status t.tx.first stored u)

-- two sessions' transactions differ, and neither had ended at the other's snapshot
abbrev pub OthersAreApart : Type 0
OthersAreApart = (layout : DiskLayout) (pages : PageMap) (t : TransactionsState) (s : DatabaseState) (session other : ℕ) (o p : Open)
    → ShowsDatabase layout pages t s → transaction_of t.opens session ≡ Some o → transaction_of t.opens other ≡ Some p → other ≢ session
    → (o.t ≢ p.t) × (had_ended p.snapshot o.t ≡ false)

-- a mark without a conflict is seen by none of the others
abbrev pub MarkIsUnseen : Type 0
MarkIsUnseen = (layout : DiskLayout) (pages : PageMap) (t : TransactionsState) (s : DatabaseState) (stored : List Status) (session other table : ℕ) (o p : Open) (spot : Spot) (row : StoredRow)
    → ShowsDatabase layout pages t s → HasStatuses layout pages stored → transaction_of t.opens session ≡ Some o → transaction_of t.opens other ≡ Some p → other ≢ session
    → table < length layout.schema.tables → StandsAt layout pages table spot row → conflicts_with t.tx.first stored o.t row ≡ false
    → sees_row t.tx.first stored p (marked row o.t) ≡ sees_row t.tx.first stored p row

-- where a mark is without a conflict, no delete of its row had happened for any of the others
abbrev pub NoDeleteIsDone : Type 0
NoDeleteIsDone = (layout : DiskLayout) (pages : PageMap) (t : TransactionsState) (s : DatabaseState) (stored : List Status) (session other table : ℕ) (o p : Open) (spot : Spot) (row : StoredRow)
    → ShowsDatabase layout pages t s → HasStatuses layout pages stored → transaction_of t.opens session ≡ Some o → transaction_of t.opens other ≡ Some p → other ≢ session
    → table < length layout.schema.tables → StandsAt layout pages table spot row → conflicts_with t.tx.first stored o.t row ≡ false
    → has_done p.snapshot p.t row.deleter (given_status t.tx.first stored row.deleter) ≡ false

-- nor is a put seen
abbrev pub PutIsUnseen : Type 0
PutIsUnseen = (layout : DiskLayout) (pages : PageMap) (t : TransactionsState) (s : DatabaseState) (stored : List Status) (session other : ℕ) (o p : Open) (row : StoredRow)
    → ShowsDatabase layout pages t s → transaction_of t.opens session ≡ Some o → transaction_of t.opens other ≡ Some p → other ≢ session → row.id.t ≡ o.t
    → sees_row t.tx.first stored p row ≡ false

-- ---- what a scan finds

-- What was found of the rows that a transaction sees, in order of their ids, is what the query finds in its copy.
abbrev pub FoundIsShown : Type 0
FoundIsShown = (layout : DiskLayout) (pages : PageMap) (t : TransactionsState) (s : DatabaseState) (stored : List Status) (session : ℕ) (o : Open) (x : OpenTransaction) (query : Query) (blocks : List (List Slot)) (found : List (Row × Spot)) (rows : List Row)
    → ShowsDatabase layout pages t s → HasStatuses layout pages stored → transaction_of t.opens session ≡ Some o → maps.get s.sessions session ≡ Some x
    → query.table < length layout.schema.tables → HasBlocks layout pages query.table blocks → AreFound (sees_row t.tx.first stored o) query blocks found
    → IsPermutation (map (λ (f : Row × Spot). f.0) found) rows → IsSorted (λ (a b : Row). id_cmp a.id b.id) rows
    → rows ≡ model.rows_found x query

-- a look is answered that, and changes nothing
abbrev pub LookIsShown : Type 0
LookIsShown = (s : DatabaseState) (session : ℕ) (x : OpenTransaction) (query : Query) → maps.get s.sessions session ≡ Some x
    → model.effect s (request_entry session query.table (requests.Look query)) ≡ (s, model.Found (model.rows_found x query))

-- ---- what an opened store shows

-- the same database without its transactions that were under way
abbrev pub without_sessions : DatabaseState → DatabaseState
without_sessions s = record s { sessions = maps.empty }

-- the transactions as they are started over a store
pub record IsOpened (t : TransactionsState) : Type 0 where
  pub first : t.tx.first ≡ t.tx.next
  pub opens : t.opens ≡ replicate MAX_SESSIONS None

-- what pages showed before a stop they show without the transactions that were under way
abbrev pub OpeningIsShown : Type 0
OpeningIsShown = (layout : DiskLayout) (pages : PageMap) (t now : TransactionsState) (s : DatabaseState) (stored : List Status)
    → ShowsDatabase layout pages t s → HasStatuses layout pages stored → IsNext stored now.tx.next → IsOpened now → ShowsDatabase layout pages now (without_sessions s)

-- What a stop in the midst of a commit leaves, whose status may have been written or not: it isn't done, or all of it is. That of a transaction that
-- has failed isn't done.
abbrev pub CommitIsWhole : Type 0
CommitIsWhole = (layout : DiskLayout) (old new : PageMap) (t : TransactionsState) (s : DatabaseState) (session : ℕ) (o : Open)
    → ShowsDatabase layout old t s → transaction_of t.opens session ≡ Some o → t.tx.next ≤ number_limit layout
    → HasPart layout old (committed_by o) status.Committed new
    → ShowsDatabase layout new t s ⊎ ((o.failed ≡ false) × DoesRequest layout new (with_open t session None) s (request_entry session 0 requests.Commit) model.Committed)

-- pages on which no transaction has a status and no table has a started page show a new database
abbrev pub NewIsShown : Type 0
NewIsShown = (layout : DiskLayout) (pages : PageMap) (now : TransactionsState) (stored : List Status)
    → HasStatuses layout pages stored → IsNext stored 1 → AreStarted layout pages
    → ((table block : ℕ) → table < length layout.schema.tables → block < layout.sizes.heap_blocks → IsUnstarted (block_at pages (relation_of table) block))
    → IsOpened now → now.tx.next ≡ 1 → ShowsDatabase layout pages now initial_state
