use Rattle.std.proofs.Common.{length}
use Rattle.index_layout.proofs.writers.+free_slots.Given as goal

abbrev pub decreases-free_slots : goal.decreases-free_slots
decreases-free_slots l = length l.list.now
