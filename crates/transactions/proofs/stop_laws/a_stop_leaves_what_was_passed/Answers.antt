use Rattle.transactions.proofs.Stops.{stops_keep_either, stops_keep_table, stops_leave_either, sure_table_is_left}
use Rattle.transactions.proofs.stop_laws.a_stop_leaves_what_was_passed.Goals as goal

pub returns-clause-kept : goal.returns-clause-kept
returns-clause-kept g c = stops_keep_table g.D.Disk.told

pub returns-clause-either : goal.returns-clause-either
returns-clause-either g c = stops_leave_either g.D.Disk.told

pub returns-clause-still : goal.returns-clause-still
returns-clause-still g c = stops_keep_either g.D.Disk.told

pub returns-clause-sure : goal.returns-clause-sure
returns-clause-sure g c = sure_table_is_left g.D.Disk.told
