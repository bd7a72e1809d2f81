use Rattle.std.proofs.Common.{subst}
use Rattle.std.proofs.lemmas.List.Elements.{All-more}
use Rattle.opclass_inclusion.specs.NetExact.{IsAddress}
use Rattle.opclass_inclusion.proofs.net_exact.known.Goals as goal

pub values-preserved : goal.values-preserved
values-preserved c = All-more IsAddress c.args.values.now c.values.value-index c.value-item.result c.values-test.true c.values.invariant (subst IsAddress c.value-item.is c.address_known.ensures)
