use Rattle.script_laws.proofs.Summarized.{works_a_range}
use Rattle.script_laws.proofs.Works.{work_finds_none}
use Rattle.script_laws.proofs.working.work_takes_the_first.Goals as goal

pub returns-clause-first : goal.returns-clause-first
returns-clause-first c = works_a_range

pub returns-clause-none : goal.returns-clause-none
returns-clause-none c = work_finds_none
