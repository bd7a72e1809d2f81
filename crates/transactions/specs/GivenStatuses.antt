-- how the transactions of stored statuses stand
use Rattle.std.specs.Prelude.{ℕ, ◌==◌, List, map, if◌then◌else◌}
use Rattle.std.specs.List.{range_with_len}
use Rattle.snapshot_core.specs.declared.statuses.Status.{Status}
use Rattle.snapshot_core.specs.declared.statuses.Status.TheVariants.{Unused}
use Rattle.tx_table.specs.Statuses.{shown_status}
use Rattle.tx_table.specs.TxState.{TxState}

-- how the transaction of a number stands by these statuses, where the first number of this opening is that one; number 0 is none's
abbrev pub given_status : (first : ℕ) → List Status → ℕ → Status
given_status first stored t = if t == 0 then Unused else shown_status first stored t

-- those of all transactions with a number
abbrev pub given_statuses : TxState → List Status → List Status
given_statuses tx stored = map (given_status tx.first stored) (range_with_len 0 tx.next)
