use Rattle.opclass_bloom.proofs.Setting.{either_set}
use Rattle.opclass_bloom.proofs.exact.a_union_sets_the_positions_of_either.Goals as goal

pub returns : goal.returns
returns c = either_set
