use Rattle.model_laws.proofs.Sets.{overlaps_is_common_number}
use Rattle.model_laws.proofs.value_laws.overlaps_is_common_number.Goals as goal

pub returns : goal.returns
returns c = overlaps_is_common_number
