use Rattle.session_parts.proofs.Ending.{end_stands}
use Rattle.session_parts.proofs.status_fronts.an_end_stands.Goals as goal

pub returns : goal.returns
returns c = end_stands
