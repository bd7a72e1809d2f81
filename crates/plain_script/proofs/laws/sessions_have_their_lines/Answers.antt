use Rattle.plain_script.proofs.LinesOfNames.{sessions_have_their_lines}
use Rattle.plain_script.proofs.laws.sessions_have_their_lines.Goals as goal

pub returns : goal.returns
returns c = sessions_have_their_lines
