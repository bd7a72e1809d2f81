use Rattle.std.proofs.Common.{length}
use Rattle.page_layout.proofs.slot.+columns_fault.Given as goal

abbrev pub decreases-columns_fault : goal.decreases-columns_fault
decreases-columns_fault l = length l.kinds.now
