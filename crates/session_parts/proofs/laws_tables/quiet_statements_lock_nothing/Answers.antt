use Rattle.session_parts.proofs.Locks.{gives_none, quiet_ones_lock_none}
use Rattle.session_parts.proofs.laws_tables.quiet_statements_lock_nothing.Goals as goal

pub returns-clause-none : goal.returns-clause-none
returns-clause-none c = quiet_ones_lock_none

pub returns-clause-gives : goal.returns-clause-gives
returns-clause-gives c = gives_none
