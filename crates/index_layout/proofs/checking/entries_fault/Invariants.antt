use Rattle.std.proofs.Common.{◌≡◌, ◌-◌, ◌*◌, drop}
use Rattle.index_layout.specs.IndexFaults.{entries_fault, shifted}
use Rattle.index_layout.proofs.checking.entries_fault.Given as goal

abbrev pub invariant-loop-entry : goal.invariant-loop-entry
invariant-loop-entry l = shifted (l.entry * 8) (entries_fault (1020 - l.entry) (drop (l.entry * 8) l.body)) ≡ entries_fault 1020 l.body
