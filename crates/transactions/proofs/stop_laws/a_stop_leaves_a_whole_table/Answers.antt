use Rattle.transactions.proofs.Stops.{commit_leaves_either, step_keeps_table, sure_database_is_left}
use Rattle.transactions.proofs.stop_laws.a_stop_leaves_a_whole_table.Goals as goal

pub returns-clause-step : goal.returns-clause-step
returns-clause-step g c = step_keeps_table g.D.Disk.told

pub returns-clause-commit : goal.returns-clause-commit
returns-clause-commit g c = commit_leaves_either g.D.Disk.told

pub returns-clause-sure : goal.returns-clause-sure
returns-clause-sure g c = sure_database_is_left g.D.Disk.told
