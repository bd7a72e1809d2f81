use Rattle.model_laws.proofs.StandAtIds.{rows_stand_at_their_ids}
use Rattle.model_laws.proofs.laws.rows_stand_at_their_ids.Goals as goal

pub returns : goal.returns
returns c = rows_stand_at_their_ids
