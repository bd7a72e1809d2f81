use Rattle.std.proofs.Common.{length}
use Rattle.page_layout.proofs.row.+null_bits.Given as goal

abbrev pub decreases-null_bits : goal.decreases-null_bits
decreases-null_bits l = length l.values.now
