use Rattle.session_parts.proofs.Within.{own_steps_keep_opens, step_within_stands}
use Rattle.session_parts.proofs.status_fronts.a_step_within_stands.Goals as goal

pub returns-clause-kept : goal.returns-clause-kept
returns-clause-kept c = step_within_stands

pub returns-clause-opens : goal.returns-clause-opens
returns-clause-opens c = own_steps_keep_opens
