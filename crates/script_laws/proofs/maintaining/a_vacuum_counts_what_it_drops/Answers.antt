use Rattle.script_laws.proofs.Swept.{a_vacuum_counts_rows_and_tuples}
use Rattle.script_laws.proofs.Vacuumed.{a_vacuum_counts_rows_and_ranges}
use Rattle.script_laws.proofs.maintaining.a_vacuum_counts_what_it_drops.Goals as goal

pub returns-clause-ranges : goal.returns-clause-ranges
returns-clause-ranges c = a_vacuum_counts_rows_and_ranges

pub returns-clause-tuples : goal.returns-clause-tuples
returns-clause-tuples c = a_vacuum_counts_rows_and_tuples
