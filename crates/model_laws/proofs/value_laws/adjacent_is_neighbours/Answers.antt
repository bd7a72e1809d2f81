use Rattle.model_laws.proofs.Sets.{adjacent_is_neighbours}
use Rattle.model_laws.proofs.value_laws.adjacent_is_neighbours.Goals as goal

pub returns : goal.returns
returns c = adjacent_is_neighbours
