use Rattle.std.proofs.Common.{◌≡◌, drop}
use Rattle.page_locks.specs.HeldLocks.{found}
use Rattle.page_locks.proofs.locks.holder_in.Given as goal

abbrev pub invariant-locks : goal.invariant-locks
invariant-locks l = found (drop l.lock-index l.held) l.page ≡ found l.held l.page
