-- Where a script stands: all that the text of its next line depends on, and all that the line changes.
use Rattle.std.specs.Prelude.{ℕ, ◌==◌, List, [], Option, if◌then◌else◌}
use Rattle.store_layout.specs.DiskLayout.{DiskLayout}
use Rattle.block_model.specs.DatabaseState.{DatabaseState}
use Rattle.block_model.specs.RequestEffect.{Answer}
use Rattle.block_model.specs.SerialRun.{serial_run}
use Rattle.block_model.specs.declared.request.Entry.{Entry}
use Rattle.store_layout.specs.declared.statement.Statement.{Statement}
use Rattle.coverage.specs.Accounts.{Account, Accounts, Asked}
use Rattle.coverage.specs.Table.{TableState}

-- a statement in hand, and what its requests so far were answered
pub record Hand : Type 0 where
  pub statement : Statement
  pub answers : List Answer

abbrev pub new_hand : Statement → Hand
new_hand statement = record { statement = statement; answers = [] }

-- Layout and opening never change. By a session's number: its name, the statement that it has in hand, and what that has to tell so far. By a
-- table's number: its heap and indexes, and what each session is at there. Then the queue of the summaries that are asked for, and the
-- journal of all requests of transactions.
pub record Place : Type 0 where
  pub layout : DiskLayout
  pub opening : DatabaseState
  pub names : List (List ℕ)
  pub hands : ℕ → Option Hand
  pub tables : ℕ → TableState
  pub accounts : ℕ → Account
  pub queue : List Asked
  pub journal : List Entry

-- the database that the journal makes, one request after the other
abbrev pub database_at : Place → DatabaseState
database_at p = serial_run p.opening p.journal

-- what the statements have to tell, and the queue, as a table has them
abbrev pub accounts_at : Place → ℕ → Accounts
accounts_at p table = record { table = table; queue = p.queue; of = p.accounts }

-- the same by number, but for one
abbrev pub updated : {A : Type 0} → (ℕ → A) → ℕ → A → ℕ → A
updated f n x m = if m == n then x else f m
