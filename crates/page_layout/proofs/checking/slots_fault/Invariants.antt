use Rattle.std.proofs.Common.{◌≡◌, ◌-◌, ◌*◌, drop}
use Rattle.page_layout.specs.RowFaults.{shifted}
use Rattle.page_layout.specs.PageFaults.{slots_fault}
use Rattle.page_layout.proofs.checking.slots_fault.Given as goal

abbrev pub invariant-loop-slot : goal.invariant-loop-slot
invariant-loop-slot l = shifted (l.slot * l.row) (slots_fault l.kinds (l.slots - l.slot) (drop (l.slot * l.row) l.body)) ≡ slots_fault l.kinds l.slots l.body
