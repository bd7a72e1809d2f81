use Rattle.session_parts.proofs.Beginning.{begin_stands}
use Rattle.session_parts.proofs.status_fronts.a_begin_stands.Goals as goal

pub returns : goal.returns
returns c = begin_stands
