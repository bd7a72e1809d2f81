use Rattle.model_laws.proofs.Sets.{contains_is_superset}
use Rattle.model_laws.proofs.value_laws.contains_is_superset.Goals as goal

pub returns : goal.returns
returns c = contains_is_superset
