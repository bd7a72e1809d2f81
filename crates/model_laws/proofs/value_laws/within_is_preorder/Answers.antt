use Rattle.model_laws.proofs.Within.{within_is_preorder}
use Rattle.model_laws.proofs.value_laws.within_is_preorder.Goals as goal

pub returns : goal.returns
returns c = within_is_preorder
