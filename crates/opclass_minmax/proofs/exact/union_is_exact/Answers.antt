use Rattle.opclass_minmax.proofs.Extremes.{exact_of_both}
use Rattle.opclass_minmax.proofs.exact.union_is_exact.Goals as goal

pub returns : goal.returns
returns c = exact_of_both
