use Rattle.model_laws.proofs.OperatorKinds.{operators_have_kinds}
use Rattle.model_laws.proofs.value_laws.operators_have_kinds.Goals as goal

pub returns : goal.returns
returns c = operators_have_kinds
