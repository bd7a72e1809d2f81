use Rattle.model_laws.proofs.Numbers.{numbers_are_ordered}
use Rattle.model_laws.proofs.value_laws.numbers_are_ordered.Goals as goal

pub returns : goal.returns
returns c = numbers_are_ordered
