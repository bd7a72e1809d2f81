use Rattle.model_laws.proofs.Equality.{equality_is_identity}
use Rattle.model_laws.proofs.value_laws.equality_is_identity.Goals as goal

pub returns : goal.returns
returns c = equality_is_identity
