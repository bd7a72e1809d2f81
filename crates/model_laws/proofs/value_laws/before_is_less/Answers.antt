use Rattle.model_laws.proofs.Sets.{before_is_less}
use Rattle.model_laws.proofs.value_laws.before_is_less.Goals as goal

pub returns : goal.returns
returns c = before_is_less
