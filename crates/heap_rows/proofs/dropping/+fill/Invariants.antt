use Rattle.std.proofs.Common.{length}
use Rattle.heap_rows.proofs.dropping.+fill.Given as goal

abbrev pub decreases-fill : goal.decreases-fill
decreases-fill l = length l.slots.now
