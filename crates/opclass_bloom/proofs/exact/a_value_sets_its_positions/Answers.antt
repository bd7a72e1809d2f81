use Rattle.std.proofs.Common.{◌<◌, length}
use Rattle.opclass_bloom.proofs.Exactness.{value_sets}
use Rattle.opclass_bloom.proofs.exact.a_value_sets_its_positions.Goals as goal

pub returns : goal.returns
returns c = λ p s v q of_class small. let within : q < length s = rw of_class small in value_sets p s v q within
