-- the database that pages, numbers and open transactions show
use Rattle.std.specs.Prelude.{◌≡◌, ◌≢◌, ℕ, ◌<◌, List, length, Some}
use Rattle.disk_trait.specs.Told.{Told}
use Rattle.block_model.specs.declared.request.Entry.{Entry}
use Rattle.block_model.specs.declared.row.RowId.{RowId}
use Rattle.block_model.specs.DatabaseState.{DatabaseState}
use Rattle.block_model.specs.RequestEffect.{Answer, effect}
use Rattle.store_layout.specs.DiskLayout.{DiskLayout}
use Rattle.page_layout.specs.PageContents.{Slot}
use Rattle.page_map.specs.Keeps.{Tells}
use Rattle.page_map.specs.PageMap.{PageMap, View}
use Rattle.heap_rows.specs.HeapBlocks.{HasBlocks}
use Rattle.snapshot_core.specs.declared.statuses.Status.{Status}
use Rattle.snapshot_core.specs.declared.statuses.Status.TheVariants.{Unused}
use Rattle.snapshot_core.specs.declared.table.Version.{Version}
use Rattle.snapshot_core.specs.StoredVersions.{AreVersions, stored as stored_version}
use Rattle.snapshot_core.specs.VisibleState.{all_versions, visible_state}
use Rattle.transactions.specs.ShownVersions.{shown_tables}
use Rattle.tx_table.specs.LeavesRest.{AreStarted}
use Rattle.tx_table.specs.Statuses.{HasStatuses}
use Rattle.tx_table.specs.TxState.{IsNext}
use Rattle.transactions.specs.GivenStatuses.{given_status, given_statuses}
use Rattle.transactions.specs.TransactionsState.{TransactionsState}

-- By these statuses the version's transaction has begun, and so has its deleter; 0 is none.
pub record HaveBegun (first : ℕ) (stored : List Status) (v : Version) : Type 0 where
  pub put : given_status first stored v.row.id.t ≢ Unused
  pub gone : v.deleter ≢ 0 → given_status first stored v.deleter ≢ Unused

-- The pages have statuses, and the blocks of each table; the rows there are versions of the transactions that stand by these statuses,
-- and each row's transaction and deleter have begun. The database is the one that they show.
pub record ShowsDatabase (layout : DiskLayout) (pages : PageMap) (t : TransactionsState) (s : DatabaseState) : Type 0 where
  pub stored : List Status
  pub has : HasStatuses layout pages stored
  pub next : IsNext stored t.tx.next
  pub started : AreStarted layout pages
  pub blocks : (table : ℕ) → table < length layout.schema.tables → (blocks : List (List Slot)) × HasBlocks layout pages table blocks
  pub versions : AreVersions (shown_tables layout pages) (given_statuses t.tx stored) t.opens
  pub used : (id : RowId) (v : Version) → stored_version (all_versions (shown_tables layout pages)) id ≡ Some v → HaveBegun t.tx.first stored v
  pub database : visible_state (all_versions (shown_tables layout pages)) (given_statuses t.tx stored) t.opens ≡ s

-- where the disk tells its contents, a database is shown
abbrev pub ShowsSome : {D : Type 0} → (D → Told) → View D → TransactionsState → Type 0
ShowsSome told store t = Tells told store → (s : DatabaseState) × ShowsDatabase store.layout store.pages t s

-- where the disk tells its contents, the fact holds of the database that is shown
abbrev pub OfDatabase : {D : Type 0} → (D → Told) → View D → TransactionsState → (DatabaseState → Type 0) → Type 0
OfDatabase told store t P = Tells told store → (s : DatabaseState) → ShowsDatabase store.layout store.pages t s → P s

-- the request leads to a database that these pages and transactions show, and has that answer
abbrev pub DoesRequest : DiskLayout → PageMap → TransactionsState → DatabaseState → Entry → Answer → Type 0
DoesRequest layout pages t s entry answer = (after : DatabaseState) × (effect s entry ≡ (after, answer)) × ShowsDatabase layout pages t after
