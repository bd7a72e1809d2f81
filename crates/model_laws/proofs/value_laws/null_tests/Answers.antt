use Rattle.model_laws.proofs.OperatorKinds.{null_tests}
use Rattle.model_laws.proofs.value_laws.null_tests.Goals as goal

pub returns : goal.returns
returns c = null_tests
