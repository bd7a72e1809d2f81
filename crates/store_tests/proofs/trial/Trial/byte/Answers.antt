use Rattle.std.proofs.Common.{arith}
use Rattle.store_tests.proofs.Kept.{trial_kept}
use Rattle.store_tests.proofs.trial.Trial.byte.Goals as goal

pub first_byte-requires : goal.first_byte-requires
first_byte-requires g c = let over = c.self.invariant.0 in omega (arith, over.some, over.opened, over.within)

pub invariant_of-self : goal.invariant_of-self
invariant_of-self g c = trial_kept g.D.Disk.told c.self.inside.table c.self.inside.store c.first_byte.new.store c.first_byte.ensures c.self.invariant
