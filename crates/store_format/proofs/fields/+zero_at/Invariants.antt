use Rattle.std.proofs.Common.{length}
use Rattle.store_format.proofs.fields.+zero_at.Given as goal

abbrev pub decreases-zero_at : goal.decreases-zero_at
decreases-zero_at l = length l.bytes.now
