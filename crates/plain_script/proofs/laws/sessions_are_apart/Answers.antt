use Rattle.plain_script.proofs.SessionNames.{has_its_sessions}
use Rattle.plain_script.proofs.laws.sessions_are_apart.Goals as goal

pub returns : goal.returns
returns c = has_its_sessions
