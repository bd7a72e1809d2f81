use Rattle.session_parts.proofs.Places.{asking_step_is_shown, place_stays_shown, step_at_once_is_shown, table_step_is_shown}
use Rattle.session_parts.proofs.laws_places.a_step_is_shown.Goals as goal

pub returns-clause-in_one_table : goal.returns-clause-in_one_table
returns-clause-in_one_table c = table_step_is_shown

pub returns-clause-asking : goal.returns-clause-asking
returns-clause-asking c = asking_step_is_shown

pub returns-clause-in_no_table : goal.returns-clause-in_no_table
returns-clause-in_no_table c = step_at_once_is_shown

pub returns-clause-same : goal.returns-clause-same
returns-clause-same c = place_stays_shown
