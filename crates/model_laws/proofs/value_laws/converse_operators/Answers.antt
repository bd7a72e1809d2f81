use Rattle.model_laws.proofs.Converses.{converse_operators}
use Rattle.model_laws.proofs.value_laws.converse_operators.Goals as goal

pub returns : goal.returns
returns c = converse_operators
