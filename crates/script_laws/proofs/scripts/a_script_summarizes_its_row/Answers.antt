use Rattle.script_laws.proofs.FirstRow.{a_new_row_is_summarized}
use Rattle.script_laws.proofs.FromStart as start
use Rattle.script_laws.proofs.scripts.a_script_summarizes_its_row.Goals as goal

pub returns-clause-new : goal.returns-clause-new
returns-clause-new c = a_new_row_is_summarized

pub returns-clause-script : goal.returns-clause-script
returns-clause-script c = start.a_script_summarizes_its_row
