use Rattle.model_laws.proofs.Networks.{networks_are_sets}
use Rattle.model_laws.proofs.value_laws.networks_are_sets.Goals as goal

pub returns : goal.returns
returns c = networks_are_sets
