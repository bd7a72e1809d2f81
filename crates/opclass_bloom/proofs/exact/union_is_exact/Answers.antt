use Rattle.opclass_bloom.proofs.Exactness.{exact_of_both}
use Rattle.opclass_bloom.proofs.exact.union_is_exact.Goals as goal

pub returns : goal.returns
returns c = exact_of_both
