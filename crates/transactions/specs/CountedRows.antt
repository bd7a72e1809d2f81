-- the transactions whose rows count: those that have committed, and the open ones that haven't failed
use Rattle.std.specs.Prelude.{ℕ, Bool, false, not, ◌&&◌, ◌||◌, ◌==◌, List, Option, None, Some}
use Rattle.std.specs.List.{list_any}
use Rattle.snapshot_core.specs.declared.statuses.Status.{Status}
use Rattle.snapshot_core.specs.Visibility.{is_committed}
use Rattle.snapshot_core.specs.declared.sessions.Open.{Open}
use Rattle.transactions.specs.GivenStatuses.{given_status}
use Rattle.transactions.specs.TransactionsState.{TransactionsState}

-- a session's open transaction has that number, and hasn't failed
abbrev pub goes_on : ℕ → Option Open → Bool
goes_on u None = false
goes_on u (Some o) = (o.t == u) && not o.failed

-- the rows of the transaction numbered u count
abbrev pub counts : TransactionsState → List Status → ℕ → Bool
counts t stored u = is_committed (given_status t.tx.first stored u) || list_any (goes_on u) t.opens
