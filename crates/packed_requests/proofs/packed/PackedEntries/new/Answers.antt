use Rattle.std.proofs.Common.{ap, length, arith}
use Rattle.packed_requests.proofs.ReadBack.{none_in}
use Rattle.packed_requests.proofs.packed.PackedEntries.new.Goals as goal

pub returns-clause-entries : goal.returns-clause-entries
returns-clause-entries c = none_in c.new.result.items c.new-2.result.items c.new-3.result.items c.new-4.result.items (omega (arith, ap length c.new.ensures.items))
