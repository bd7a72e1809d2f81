use Rattle.script_semantics.proofs.Waiting.{ended_is_idle, holder_behind, waiting_stays}
use Rattle.script_semantics.proofs.laws.a_blocked_step_waits.Goals as goal

pub returns-clause-changes_nothing : goal.returns-clause-changes_nothing
returns-clause-changes_nothing c = waiting_stays

pub returns-clause-holder : goal.returns-clause-holder
returns-clause-holder c = λ p q n hand refusal step. holder_behind c.blocked_statements_wait.ensures.held p n hand refusal q step

pub returns-clause-ended : goal.returns-clause-ended
returns-clause-ended c = ended_is_idle
