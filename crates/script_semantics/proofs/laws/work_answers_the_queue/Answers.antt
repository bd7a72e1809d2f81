use Rattle.script_semantics.proofs.Working.{none_where_empty, work_takes_the_first}
use Rattle.script_semantics.proofs.laws.work_answers_the_queue.Goals as goal

pub returns-clause-none : goal.returns-clause-none
returns-clause-none c = none_where_empty

pub returns-clause-first : goal.returns-clause-first
returns-clause-first c = work_takes_the_first
