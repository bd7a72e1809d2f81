use Rattle.std.proofs.Common.{length, length-take, ap, arith}
use Rattle.packed_requests.proofs.queries.copy_of.Goals as goal

pub push-requires : goal.push-requires
push-requires c = omega (arith, ap length c.conds.invariant, length-take c.conds.cond-index c.as_slice-cond-items.result.now, c.as_slice-cond-items.ensures.within)
