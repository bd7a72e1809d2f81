use Rattle.session_parts.proofs.Tables.{own_table_goes_on, own_table_is_pruned, table_is_kept, table_shows_alike}
use Rattle.session_parts.proofs.laws_tables.the_own_table_goes_on.Goals as goal

pub returns-clause-goes_on : goal.returns-clause-goes_on
returns-clause-goes_on c = own_table_goes_on

pub returns-clause-kept : goal.returns-clause-kept
returns-clause-kept c = table_is_kept

pub returns-clause-alike : goal.returns-clause-alike
returns-clause-alike c = table_shows_alike

pub returns-clause-pruned : goal.returns-clause-pruned
returns-clause-pruned c = own_table_is_pruned
