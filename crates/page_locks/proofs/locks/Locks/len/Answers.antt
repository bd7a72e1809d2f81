use Rattle.std.proofs.Common.{◌≡◌, subst, arith}
use Rattle.page_locks.specs.LockHolders.{LockState, count_of}
use Rattle.page_locks.proofs.Entries.{len_listed}
use Rattle.page_locks.proofs.locks.Locks.len.Goals as goal

pub returns : goal.returns
returns c = subst (λ (s : LockState). c.len.result ≡ count_of s) c.self.view_is (omega (arith, len_listed c.self.inside.held.items c.self.invariant.apart, c.self.inside.held.ok))
