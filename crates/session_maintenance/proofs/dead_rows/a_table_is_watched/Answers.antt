use Rattle.session_maintenance.proofs.Watching.{table_is_spared, table_is_watched}
use Rattle.session_maintenance.proofs.dead_rows.a_table_is_watched.Goals as goal

pub returns-clause-watched : goal.returns-clause-watched
returns-clause-watched c = table_is_watched

pub returns-clause-spared : goal.returns-clause-spared
returns-clause-spared c = table_is_spared
