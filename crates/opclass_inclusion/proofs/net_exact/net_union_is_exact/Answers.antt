use Rattle.opclass_inclusion.proofs.NetExactness.{exact_of_both}
use Rattle.opclass_inclusion.proofs.net_exact.net_union_is_exact.Goals as goal

pub returns : goal.returns
returns c = exact_of_both
