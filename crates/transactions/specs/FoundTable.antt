-- The table that the pages of a store show when nobody is at work.
use Rattle.std.specs.Prelude.{◌≡◌, ◌≢◌, ◌↔◌, ℕ, ◌<◌, List, length, Some}
use Rattle.std.specs.FinMap.{get}
use Rattle.block_model.specs.declared.place.Spot.{Spot}
use Rattle.block_model.specs.declared.row.Row.{Row}
use Rattle.block_model.specs.declared.row.RowId.{RowId}
use Rattle.block_model.specs.TableState.{TableState}
use Rattle.store_layout.specs.DiskLayout.{DiskLayout}
use Rattle.page_layout.specs.PageContents.{Slot}
use Rattle.page_layout.specs.RowBytes.{StoredRow}
use Rattle.page_map.specs.PageMap.{PageMap}
use Rattle.heap_rows.specs.HeapBlocks.{HasBlocks}
use Rattle.snapshot_core.specs.declared.statuses.Status.{Status}
use Rattle.snapshot_core.specs.declared.statuses.Status.TheVariants.{Committed}
use Rattle.tx_table.specs.Statuses.{HasStatuses, status_of}
use Rattle.transactions.specs.StoredRows.{StandsAt, row_of}

-- a commit put the row, and no commit deleted it; 0 is no deleter
pub record IsOfCommits (statuses : List Status) (row : StoredRow) : Type 0 where
  pub put : status_of statuses row.id.t ≡ Committed
  pub undeleted : row.deleter ≢ 0 → status_of statuses row.deleter ≢ Committed

-- such a row stands under that id, in a slot of its table
pub record StandsCommitted (layout : DiskLayout) (pages : PageMap) (statuses : List Status) (id : RowId) (row : Row) : Type 0 where
  pub below : row.table < length layout.schema.tables
  pub spot : Spot
  pub stored : StoredRow
  pub stands : StandsAt layout pages row.table spot stored
  pub is : row ≡ row_of row.table stored
  pub under : stored.id ≡ id
  pub committed : IsOfCommits statuses stored

-- The pages have statuses, and the blocks of each table; and the table has a row under an id if and only if such a row stands there.
pub record FoundTable (layout : DiskLayout) (pages : PageMap) (table : TableState) : Type 0 where
  pub statuses : List Status
  pub has : HasStatuses layout pages statuses
  pub blocks : (n : ℕ) → n < length layout.schema.tables → (blocks : List (List Slot)) × HasBlocks layout pages n blocks
  pub rows : (id : RowId) (row : Row) → (get table id ≡ Some row) ↔ StandsCommitted layout pages statuses id row
