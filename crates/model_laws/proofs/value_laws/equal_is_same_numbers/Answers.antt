use Rattle.model_laws.proofs.Sets.{equal_is_same_numbers}
use Rattle.model_laws.proofs.value_laws.equal_is_same_numbers.Goals as goal

pub returns : goal.returns
returns c = equal_is_same_numbers
