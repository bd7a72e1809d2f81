use Rattle.session_parts.proofs.Maintenance.{maintenance_refusal_is_shown}
use Rattle.session_parts.proofs.Refusals.{refusal_is_shown}
use Rattle.session_parts.proofs.laws_refusals.a_refusal_is_shown.Goals as goal

pub returns-clause-transaction : goal.returns-clause-transaction
returns-clause-transaction c = refusal_is_shown

pub returns-clause-maintenance : goal.returns-clause-maintenance
returns-clause-maintenance c = maintenance_refusal_is_shown
