-- what a step of a scan does in its table
use Rattle.std.specs.Prelude.{◌≡◌, ℕ, Bool, Option, List}
use Rattle.block_model.specs.declared.reply.Point.{Point}
use Rattle.block_model.specs.declared.reply.Point.TheVariants as points
use Rattle.store_layout.specs.DiskLayout.{DiskLayout}
use Rattle.page_layout.specs.PageContents.{Slot}
use Rattle.page_map.specs.PageMap.{PageMap}
use Rattle.page_locks.specs.LockHolders.{LockState}
use Rattle.coverage.specs.Accounts.{Account, no_account}
use Rattle.coverage.specs.InOneIndex.{DoesAt}
use Rattle.coverage.specs.Machines.{ShownTable, Unseen, table_state, task_turned}
use Rattle.coverage.specs.Table.{Scans, TableScan, Task}
use Rattle.coverage.specs.TableSteps.{Onward}
use Rattle.heap_rows.specs.HeapBlocks.{HasBlocks}
use Rattle.bitmap_scan.specs.ScanHands.{ScanHand}
use Rattle.index_steps.specs.ShownRows.{shown_by}
use Rattle.bitmap_scan.specs.TableScans.{Beside, BeginsAt, table_scan, task_of}
use Rattle.bitmap_scan.specs.declared.stage.Stage.{Stage}
use Rattle.bitmap_scan.specs.declared.stage.Stage.TheVariants as stages

-- the point of a step at this stage; a page step comes behind them
abbrev pub point_at : Stage → Point
point_at stages.Extent = points.Extent
point_at (stages.Map at range) = points.Map
point_at (stages.Tuple at range spot) = points.Tuple
point_at stages.Judged = points.Page

-- the account of a statement is empty when it begins, and no scan adds to it
abbrev pub account_at : Stage → Account → Account
account_at stages.Extent account = no_account
account_at stage account = account

-- What the session of a scan does in the table, under this point; and where it comes: with every range of an index judged it goes on to the
-- next index, as far as to the scan that it is at afterwards.
pub record ScanGoes (s : ℕ) (shown : ShownTable) (u : Unseen) (point : Point) (account : Account → Account) (after : TableScan) : Type 0 where
  pub done : TableScan
  pub does : DoesAt s (table_state shown u) (table_state shown (task_turned s (Scans done) u)) point account
  pub same : after ≡ record done { at = after.at; range = after.range }
  pub onward : (next : Task) → Onward (table_state shown (task_turned s (Scans done) u)) (Scans after) next
      → Onward (table_state shown (task_turned s (Scans done) u)) (Scans done) next

-- a step from one hand to another, whatever the machine doesn't have
abbrev pub JudgesTo : DiskLayout → PageMap → (old new : ScanHand) → Type 0
JudgesTo layout pages old new = (s : ℕ) (locks : LockState) (blocks : List (List Slot)) (beside : Beside) (u : Unseen) → HasBlocks layout pages old.query.table blocks
    → u.task s ≡ task_of layout old.stage old beside → BeginsAt old.stage (shown_by layout pages locks old.query.table blocks) u beside
    → (judged : ℕ → ℕ → Option Bool)
    × ScanGoes s (shown_by layout pages locks old.query.table blocks) u (point_at old.stage) (account_at old.stage) (table_scan layout new (record beside { judged = judged }))
