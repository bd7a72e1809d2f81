-- a scan as its table's: what the pages show of the table, and what of the scan its machine doesn't have
use Rattle.std.specs.Prelude.{◌≡◌, ℕ, Bool, true, false, IsTrue, ◌&&◌, length, Option, None, Some}
use Rattle.block_model.specs.declared.place.Spot.{Spot}
use Rattle.block_model.specs.declared.row.Query.{Query}
use Rattle.block_model.specs.declared.row.Row.{Row}
use Rattle.block_model.specs.RowMatches.{row_matches}
use Rattle.store_layout.specs.DiskLayout.{DiskLayout}
use Rattle.coverage.specs.Machines.{ShownTable, Unseen}
use Rattle.coverage.specs.Table.{Task, Resting, Scans, TableScan}
use Rattle.coverage.specs.TableSteps.{HasPut}
use Rattle.heap_rows.specs.Heaps.{kinds_at}
use Rattle.index_steps.specs.IndexTuples.{are_values}
use Rattle.bitmap_scan.specs.ScanHands.{ScanHand, is_candidate}
use Rattle.bitmap_scan.specs.declared.stage.Stage.{Stage}
use Rattle.bitmap_scan.specs.declared.stage.Stage.TheVariants as stages

-- What a scan's machine doesn't have while it judges ranges: which rows its session sees; whether it kept each range that it judged;
-- whether its statement is an explain or a delete; up to where candidates are read, and which rows are found.
pub record Beside : Type 0 where
  pub sees : ℕ → ℕ → Bool
  pub judged : ℕ → ℕ → Option Bool
  pub explains : Bool
  pub deletes : Bool
  pub read : ℕ
  pub found : ℕ → ℕ → Bool

-- the index and the range that it judges next, and the spot that the map named there; of so many indexes
abbrev pub index_judged : (indexes : ℕ) → Stage → ℕ
index_judged indexes stages.Extent = 0
index_judged indexes (stages.Map at range) = at
index_judged indexes (stages.Tuple at range spot) = at
index_judged indexes stages.Judged = indexes

abbrev pub range_judged : Stage → ℕ
range_judged (stages.Map at range) = range
range_judged (stages.Tuple at range spot) = range
range_judged stage = 0

abbrev pub spot_held : Stage → Option Spot
spot_held (stages.Tuple at range spot) = Some spot
spot_held stage = None

-- a row of values of the table's kinds that the query finds
abbrev pub is_match : DiskLayout → Query → Row → Bool
is_match layout query r = are_values (kinds_at layout query.table) r.values && row_matches query r

-- the scan of the table
abbrev pub table_scan : DiskLayout → ScanHand → Beside → TableScan
table_scan layout hand beside = record {
  sees = beside.sees;
  matches = is_match layout hand.query;
  keeps = λ at t. t.keeps hand.query.conds;
  explains = beside.explains;
  deletes = beside.deletes;
  extent = hand.extent;
  at = index_judged (length hand.indexes) hand.stage;
  range = range_judged hand.stage;
  held = spot_held hand.stage;
  judged = beside.judged;
  candidate = is_candidate hand.candidates;
  read = beside.read;
  found = beside.found;
}

-- before its first step the session rests
abbrev pub task_of : DiskLayout → Stage → ScanHand → Beside → Task
task_of layout stages.Extent hand beside = Resting
task_of layout stage hand beside = Scans (table_scan layout hand beside)

-- what a scan that begins sees counts, and its insert is done; an explain sees no rows; nothing is judged, read or found
pub record BeginsScanning (shown : ShownTable) (u : Unseen) (beside : Beside) : Type 0 where
  pub sees : (b k : ℕ) → IsTrue (beside.sees b k) → (r : Row) × (shown.row b k ≡ Some r) × IsTrue (u.counts r.id.t) × ((n : ℕ) → HasPut b k (u.task n) → ⊥)
  pub explain : beside.explains ≡ true → (b k : ℕ) → beside.sees b k ≡ false
  pub judged : (i range : ℕ) → beside.judged i range ≡ None
  pub read : beside.read ≡ 0
  pub found : (b k : ℕ) → beside.found b k ≡ false

abbrev pub BeginsAt : Stage → ShownTable → Unseen → Beside → Type 0
BeginsAt stages.Extent shown u beside = BeginsScanning shown u beside
BeginsAt stage shown u beside = Unit {0}
