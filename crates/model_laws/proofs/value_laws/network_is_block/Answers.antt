use Rattle.model_laws.proofs.Addresses.{network_is_block}
use Rattle.model_laws.proofs.value_laws.network_is_block.Goals as goal

pub returns : goal.returns
returns c = network_is_block
