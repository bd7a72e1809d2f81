-- what a scan's steps are in its table, by the point that they have and what they add
use Rattle.std.specs.Prelude.{ℕ}
use Rattle.block_model.specs.declared.reply.Point.{Point}
use Rattle.coverage.specs.Accounts.{Account}
use Rattle.coverage.specs.InOneIndex.{DoesAt}
use Rattle.coverage.specs.Machines.{ShownTable, Unseen, table_state, task_turned}
use Rattle.coverage.specs.Table.{Task}
use Rattle.coverage.specs.TableSteps.{Settles}

-- This is a step of the table: the session's scan comes to this task, under this point, and this becomes of its account; nothing else changes.
abbrev pub ScanGoesTo : (s : ℕ) → ShownTable → Unseen → (Account → Account) → (next : Task) → Point → Type 0
ScanGoesTo s shown u account next point = (between : Task) × DoesAt s (table_state shown u) (table_state shown (task_turned s between u)) point account
    × Settles s (table_state shown (task_turned s between u)) (table_state shown (task_turned s next u))
