use Rattle.model_laws.proofs.Sets.{not_before_is_preceded}
use Rattle.model_laws.proofs.value_laws.not_before_is_preceded.Goals as goal

pub returns : goal.returns
returns c = not_before_is_preceded
