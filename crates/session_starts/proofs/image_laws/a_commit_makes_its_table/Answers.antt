use Rattle.session_starts.proofs.Steps.{step_commits}
use Rattle.session_starts.proofs.image_laws.a_commit_makes_its_table.Goals as goal

pub returns : goal.returns
returns c = step_commits
