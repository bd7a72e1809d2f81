-- How much a table has at most, and how far a statement of it goes at most.
use Rattle.std.specs.Prelude.{◌≡◌, ℕ, ◌^◌, ◌≤◌, ◌<◌, length, Some}
use Rattle.block_model.specs.declared.place.Spot.{Spot}
use Rattle.block_model.specs.declared.row.Row.{Row}
use Rattle.coverage.specs.IndexView.{IndexTuple}
use Rattle.coverage.specs.Table.{Task, Scans, Marks, TableState}

-- the heap blocks that a table may have, and of which a range may be; the pages that an index may have; and more slots than a page has, of either
abbrev pub most_blocks : ℕ
most_blocks = 131072

abbrev pub most_pages : ℕ
most_pages = 16384

abbrev pub most_slots : ℕ
most_slots = 8192

-- The table and its indexes are no larger than a layout may make them: rows stand in slots of its blocks, and tuples in slots of pages.
pub record IsBounded (w : TableState) : Type 0 where
  pub indexes : w.indexes ≤ 8
  pub blocks : w.blocks ≤ most_blocks
  pub ranges : (i : ℕ) → i < w.indexes → (w.index i).pages_per_range ≤ most_blocks
  pub pages : (i : ℕ) → i < w.indexes → (w.index i).pages.limit ≤ most_pages
  pub rows : (b k : ℕ) (r : Row) → w.row b k ≡ Some r → k < most_slots
  pub tuples : (i : ℕ) → i < w.indexes → (x : Spot) (t : IndexTuple) → (w.index i).tuple x ≡ Some t → x.slot < most_slots

-- How far a session's statement goes at most, as it stands between its steps: a scan no further than a table may reach, and a delete has no more rows
-- to mark than a list has in memory. How far any other one goes, its table tells.
abbrev pub IsTaskBounded : Task → Type 0
IsTaskBounded (Scans scan) = scan.extent ≤ most_blocks
IsTaskBounded (Marks scan ids) = length ids < 2 ^ 63
IsTaskBounded task = Unit
