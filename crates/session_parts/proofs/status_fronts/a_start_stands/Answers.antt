use Rattle.session_parts.proofs.Starting.{start_stands}
use Rattle.session_parts.proofs.status_fronts.a_start_stands.Goals as goal

pub returns : goal.returns
returns c = start_stands
