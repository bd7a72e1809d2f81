-- calls of a desummarise's step, one right after the other
use Rattle.std.specs.Prelude.{ℕ, suc, Option, Some}
use Rattle.block_model.specs.declared.reply.Point.{Point}
use Rattle.coverage.specs.Statements.{Phase}
use Rattle.coverage.specs.Accounts.{Account}
use Rattle.coverage.specs.Machines.{ShownTable}
use Rattle.coverage.specs.Table.{Job, Maintains, Task}
use Rattle.summarise_core.specs.DesummariseTable.{DesummariseGoesTo}

-- So many steps of a desummarise that holds the summarise lock, none of which is blocked or refused, while nothing else changes pages or locks.
pub data DesummariseCalls (s : ℕ) : (calls : ℕ) → ShownTable → Task → Type 0 where
  LastCall : (old new : ShownTable) (held_then : Option ℕ) (before after : Task) (point : Point) (account : Account → Account)
      → DesummariseGoesTo s old new (Some s) held_then before after point account → DesummariseCalls s 1 old before
  OneMoreCall : (calls at range : ℕ) (old new : ShownTable) (before : Task) (job : Job) (phase : Phase) (point : Point) (account : Account → Account)
      → DesummariseGoesTo s old new (Some s) (Some s) before (Maintains job at range phase) point account
      → DesummariseCalls s calls new (Maintains job at range phase)
      → DesummariseCalls s (suc calls) old before
