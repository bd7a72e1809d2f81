-- what a begin answers
use Rattle.std.specs.Prelude.{ℕ, Result, Ok, Err}
use Rattle.tx_table.specs.declared.faults.BeginFault.{BeginFault}
use Rattle.transactions.specs.declared.faults.Unbegun.{Unbegun}

-- why a transaction isn't begun, without the list of numbers that comes back
abbrev pub without_list : Result ℕ Unbegun → Result ℕ BeginFault
without_list (Ok t) = Ok t
without_list (Err unbegun) = Err unbegun.fault
