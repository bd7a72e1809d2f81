use Rattle.model_laws.proofs.Removals.{initial_is_opening}
use Rattle.model_laws.proofs.laws.initial_is_opening.Goals as goal

pub returns : goal.returns
returns c = initial_is_opening
