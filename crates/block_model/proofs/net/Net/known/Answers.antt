use Rattle.std.proofs.Common.{arith, subst}
use Rattle.block_model.specs.Networks.{IsNetwork}
use Rattle.block_model.proofs.net.Net.known.Goals as goal

pub returns : goal.returns
returns c =
    let kept = c.self.invariant in
    subst IsNetwork c.self.view_is (record { family = kept.family; prefix = kept.prefix; address = omega (arith, kept.high, kept.low) })
