use Rattle.std.proofs.Common.{All, take}
use Rattle.opclass_inclusion.specs.NetExact.{IsAddress}
use Rattle.opclass_inclusion.proofs.net_exact.known.Given as goal

abbrev pub invariant-values : goal.invariant-values
invariant-values l = All IsAddress (take l.value-index l.values)
