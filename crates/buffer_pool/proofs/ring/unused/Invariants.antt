use Rattle.std.proofs.Common.{◌≡◌, length}
use Rattle.buffer_pool.proofs.ring.unused.Given as goal

abbrev pub invariant-seats : goal.invariant-seats
invariant-seats l = l.uses ≡ length l.slots
