use Rattle.session_starts.proofs.Steps.{step_leaves_table}
use Rattle.session_starts.proofs.image_laws.a_step_leaves_the_table.Goals as goal

pub returns : goal.returns
returns c = step_leaves_table c.only_commits_change_the_table.ensures.effect
