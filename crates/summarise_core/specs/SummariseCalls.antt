-- calls of a summarise's step, one right after the other
use Rattle.std.specs.Prelude.{ℕ, suc, Option, Some}
use Rattle.block_model.specs.declared.reply.Point.{Point}
use Rattle.coverage.specs.Statements.{Phase}
use Rattle.coverage.specs.Accounts.{Account}
use Rattle.coverage.specs.Machines.{ShownTable}
use Rattle.coverage.specs.Table.{Job, Maintains, Restarts, Task}
use Rattle.summarise_core.specs.SummariseTable.{SummariseGoesTo}

-- So many steps of a summarise that holds the summarise lock, or of a vacuum's in one index after the other, none of which is blocked or
-- refused, while nothing else changes pages or locks.
pub data SummariseCalls (s : ℕ) : (calls : ℕ) → ShownTable → Task → Type 0 where
  LastCall : (old new : ShownTable) (held_then : Option ℕ) (before after : Task) (point : Point) (account : Account → Account)
      → SummariseGoesTo s old new (Some s) held_then before after point account → SummariseCalls s 1 old before
  OneMoreCall : (calls at range : ℕ) (old new : ShownTable) (before : Task) (job : Job) (phase : Phase) (point : Point) (account : Account → Account)
      → SummariseGoesTo s old new (Some s) (Some s) before (Maintains job at range phase) point account → SummariseCalls s calls new (Maintains job at range phase)
      → SummariseCalls s (suc calls) old before
  NextIndexCall : (calls next : ℕ) (old new : ShownTable) (before : Task) (point : Point) (account : Account → Account)
      → SummariseGoesTo s old new (Some s) (Some s) before (Restarts next) point account → SummariseCalls s calls new (Restarts next)
      → SummariseCalls s (suc calls) old before
