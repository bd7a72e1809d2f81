use Rattle.model_laws.proofs.Sets.{not_after_is_reached}
use Rattle.model_laws.proofs.value_laws.not_after_is_reached.Goals as goal

pub returns : goal.returns
returns c = not_after_is_reached
