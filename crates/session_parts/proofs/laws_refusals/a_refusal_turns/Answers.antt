use Rattle.session_parts.proofs.Refusals.{insert_is_refused, maintenance_is_refused, mark_is_refused, row_is_refused, scan_is_refused}
use Rattle.session_parts.proofs.laws_refusals.a_refusal_turns.Goals as goal

pub returns-clause-row : goal.returns-clause-row
returns-clause-row c = row_is_refused

pub returns-clause-insert : goal.returns-clause-insert
returns-clause-insert c = insert_is_refused

pub returns-clause-scan : goal.returns-clause-scan
returns-clause-scan c = scan_is_refused

pub returns-clause-mark : goal.returns-clause-mark
returns-clause-mark c = mark_is_refused

pub returns-clause-maintenance : goal.returns-clause-maintenance
returns-clause-maintenance c = maintenance_is_refused
