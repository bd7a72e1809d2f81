use Rattle.session_maintenance.proofs.Watching.{own_delete_is_unseen, seen_before_is_spared}
use Rattle.session_maintenance.proofs.dead_rows.rows_of_a_delete.Goals as goal

pub returns-clause-own : goal.returns-clause-own
returns-clause-own c = own_delete_is_unseen

pub returns-clause-spared : goal.returns-clause-spared
returns-clause-spared c = seen_before_is_spared
