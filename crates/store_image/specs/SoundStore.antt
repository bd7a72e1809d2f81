-- A sound store, told by its pages alone: its rows, the entries of its maps, and the tuples that these name.
use Rattle.std.specs.Prelude.{◌≡◌, ◌≢◌, ℕ, ◌*◌, ◌/◌, ◌<◌, false, List, length, map, Some, IsTrue}
use Rattle.std.specs.List.{IsDistinct}
use Rattle.std.specs.Ordering.{eq_by_cmp}
use Rattle.block_model.specs.declared.place.Spot.{Spot}
use Rattle.block_model.specs.TableState.{id_cmp}
use Rattle.store_layout.specs.DiskLayout.{DiskLayout}
use Rattle.page_layout.specs.PageContents.{Slot}
use Rattle.page_layout.specs.RowBytes.{StoredRow}
use Rattle.recovery.specs.PageMap.{PageMap}
use Rattle.recovery.specs.PageOrder.{AreInOrder}
use Rattle.heap_rows.specs.HeapBlocks.{HasBlocks}
use Rattle.snapshot_core.specs.declared.statuses.Status.{Status}
use Rattle.snapshot_core.specs.declared.statuses.Status.TheVariants.{Unused, Committed}
use Rattle.snapshot_core.specs.VisibleState.{all_versions}
use Rattle.tx_table.specs.Statuses.{HasStatuses, status_of}
use Rattle.transactions.specs.ShownVersions.{shown_tables}
use Rattle.transactions.specs.StoredRows.{StandsAt, row_of}
use Rattle.range_tuple.specs.SoundTuples.{IsTupleSpelt}
use Rattle.range_tuple.specs.Tuples.{Tuple}
use Rattle.index_contents.specs.IndexContents.{contents}
use Rattle.index_steps.specs.IndexTuples.{classes_of, index_at, range_said, seen, shape_of}
use Rattle.index_steps.specs.Readings.{HasRangeAt}

-- the number was given to a transaction: it isn't 0, and its status isn't unused
abbrev pub WasGiven : List Status → ℕ → Type 0
WasGiven statuses t = (t ≢ 0) × (status_of statuses t ≢ Unused)

-- the number of a row's transaction was given, and so was its deleter, unless it is 0
pub record HasNumbers (statuses : List Status) (row : StoredRow) : Type 0 where
  pub put : WasGiven statuses row.id.t
  pub gone : row.deleter ≢ 0 → WasGiven statuses row.deleter

-- the map of the index names a spot for the range, at which these bytes stand, and they begin with the number of the range
pub record NamesBytes (layout : DiskLayout) (pages : PageMap) (index range : ℕ) (bytes : List ℕ) : Type 0 where
  pub spot : Spot
  pub entry : (contents layout pages index).entry range ≡ Some spot
  pub there : (contents layout pages index).bytes spot ≡ Some bytes
  pub of : range_said bytes ≡ range

-- a row in use stands in the slot, in a block of the range, of the table of the index
pub record StandsInRange (layout : DiskLayout) (pages : PageMap) (index range : ℕ) (spot : Spot) (row : StoredRow) : Type 0 where
  pub stands : StandsAt layout pages (index_at layout index).table spot row
  pub within : spot.block / (index_at layout index).pages_per_range ≡ range

-- The pages stand in their order. No two rows in use have one id, in all tables; the numbers of each were given. Each entry names a tuple of its range, which has a
-- block, and the bytes there are those of a tuple of the index. If that one is final, it includes each row in use of a commit in a block of the range, deleted or not.
pub record IsSoundStore (layout : DiskLayout) (pages : PageMap) : Type 0 where
  pub order : AreInOrder layout pages
  pub ids : IsDistinct (eq_by_cmp id_cmp) (map (λ v. v.row.id) (all_versions (shown_tables layout pages)))
  pub numbers : (statuses : List Status) (table : ℕ) (spot : Spot) (row : StoredRow) → HasStatuses layout pages statuses → table < length layout.schema.tables → StandsAt layout pages table spot row → HasNumbers statuses row
  pub entries : (index range : ℕ) (x : Spot) → index < length layout.schema.indexes → (contents layout pages index).entry range ≡ Some x → HasRangeAt (contents layout pages index) range x
  pub ranges : (index range : ℕ) (x : Spot) (blocks : List (List Slot)) → index < length layout.schema.indexes → (contents layout pages index).entry range ≡ Some x → HasBlocks layout pages (index_at layout index).table blocks
      → range * (index_at layout index).pages_per_range < length blocks
  pub forms : (index range : ℕ) (bytes : List ℕ) → index < length layout.schema.indexes → NamesBytes layout pages index range bytes → (t : Tuple) × IsTupleSpelt (classes_of (shape_of layout index)) bytes t
  pub rows : (statuses : List Status) (index range : ℕ) (bytes : List ℕ) (spot : Spot) (row : StoredRow) → HasStatuses layout pages statuses → index < length layout.schema.indexes → NamesBytes layout pages index range bytes
      → (seen (shape_of layout index) bytes).placeholder ≡ false → StandsInRange layout pages index range spot row → status_of statuses row.id.t ≡ Committed
      → IsTrue ((seen (shape_of layout index) bytes).includes (row_of (index_at layout index).table row))
