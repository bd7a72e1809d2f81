-- How the rows on the pages of a store go on from step to step.
use Rattle.std.specs.Prelude.{◌≡◌, ◌⊎◌, ℕ, ◌<◌, List, length, None, Some}
use Rattle.block_model.specs.declared.place.Spot.{Spot}
use Rattle.store_layout.specs.DiskLayout.{DiskLayout}
use Rattle.page_layout.specs.PageContents.{Slot}
use Rattle.page_layout.specs.RowBytes.{StoredRow}
use Rattle.page_map.specs.PageMap.{PageMap, block_at}
use Rattle.heap_rows.specs.Heaps.{relation_of}
use Rattle.heap_rows.specs.HeapBlocks.{HasBlocks}
use Rattle.heap_rows.specs.RowPlaces.{slot_at}
use Rattle.snapshot_core.specs.declared.sessions.Open.{Open}
use Rattle.snapshot_core.specs.StoredVersions.{transaction_of}
use Rattle.transactions.specs.StoredRows.{MarksRowAt, OtherRelationsStay, PutsRow, StandsAt}
use Rattle.transactions.specs.TransactionsState.{TransactionsState}

-- one of the open transactions has that number
abbrev pub IsOfOpen : TransactionsState → ℕ → Type 0
IsOfOpen t u = (n : ℕ) × (o : Open) × (transaction_of t.opens n ≡ Some o) × (u ≡ o.t)

-- a row with this id and this deleter stood in the table
abbrev pub StoodBefore : DiskLayout → PageMap → ℕ → StoredRow → Type 0
StoodBefore layout pages table row = (spot : Spot) × (was : StoredRow) × StandsAt layout pages table spot was × (was.id ≡ row.id) × (was.deleter ≡ row.deleter)

-- Each row that stands on the pages now stood there with that deleter; or it has none; or one that was open deleted it.
abbrev pub RowsFollow : DiskLayout → (old new : PageMap) → TransactionsState → Type 0
RowsFollow layout old new t = (table : ℕ) (spot : Spot) (row : StoredRow) → table < length layout.schema.tables → StandsAt layout new table spot row
    → StoodBefore layout old table row ⊎ (row.deleter ≡ 0) ⊎ IsOfOpen t row.deleter

-- so it is where the heaps of all tables stay
abbrev pub SameHeapsFollow : Type 0
SameHeapsFollow = (layout : DiskLayout) (old new : PageMap) (t : TransactionsState)
    → ((table block : ℕ) → table < length layout.schema.tables → block_at new (relation_of table) block ≡ block_at old (relation_of table) block)
    → RowsFollow layout old new t

-- where a row is put that nobody deleted
abbrev pub PutFollows : Type 0
PutFollows = (layout : DiskLayout) (old new : PageMap) (t : TransactionsState) (table : ℕ) (spot : Spot) (row : StoredRow)
    → PutsRow layout old new table spot row → row.deleter ≡ 0 → RowsFollow layout old new t

-- where an open transaction marks a row
abbrev pub MarkFollows : Type 0
MarkFollows = (layout : DiskLayout) (old new : PageMap) (t : TransactionsState) (table : ℕ) (spot : Spot) (row : StoredRow) (deleter : ℕ)
    → MarksRowAt layout old new table spot row deleter → IsOfOpen t deleter → RowsFollow layout old new t

-- in one table rows go, and nothing else changes
pub record DropsRows (layout : DiskLayout) (old new : PageMap) (table : ℕ) : Type 0 where
  pub blocks : List (List Slot)
  pub has : HasBlocks layout old table blocks
  pub later : List (List Slot)
  pub leaves : HasBlocks layout new table later
  pub slots : (spot : Spot) → (slot_at later spot ≡ slot_at blocks spot) ⊎ (slot_at later spot ≡ None)
  pub others : OtherRelationsStay old new table

-- and so it is where rows are dropped
abbrev pub DropFollows : Type 0
DropFollows = (layout : DiskLayout) (old new : PageMap) (t : TransactionsState) (table : ℕ) → DropsRows layout old new table → RowsFollow layout old new t
