use Rattle.script_laws.proofs.Summarized.{leaves_a_range, summarizes_a_range, summarizes_a_table}
use Rattle.script_laws.proofs.maintaining.a_range_is_summarized.Goals as goal

pub returns-clause-range : goal.returns-clause-range
returns-clause-range c = summarizes_a_range

pub returns-clause-table : goal.returns-clause-table
returns-clause-table c = summarizes_a_table

pub returns-clause-left : goal.returns-clause-left
returns-clause-left c = leaves_a_range
