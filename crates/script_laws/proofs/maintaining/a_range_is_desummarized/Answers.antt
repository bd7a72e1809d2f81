use Rattle.script_laws.proofs.Desummarized.{desummarizes_a_range, desummarizes_nothing}
use Rattle.script_laws.proofs.maintaining.a_range_is_desummarized.Goals as goal

pub returns-clause-entry : goal.returns-clause-entry
returns-clause-entry c = desummarizes_a_range

pub returns-clause-none : goal.returns-clause-none
returns-clause-none c = desummarizes_nothing
