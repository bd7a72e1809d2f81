use Rattle.script_laws.proofs.Waits.{a_desummarize_waits, a_lock_is_waited_for, an_insert_waits}
use Rattle.script_laws.proofs.waiting.a_step_is_told_its_holder.Goals as goal

pub returns-clause-lock : goal.returns-clause-lock
returns-clause-lock c = a_lock_is_waited_for

pub returns-clause-insert : goal.returns-clause-insert
returns-clause-insert c = an_insert_waits

pub returns-clause-desummarize : goal.returns-clause-desummarize
returns-clause-desummarize c = a_desummarize_waits
