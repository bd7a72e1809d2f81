use Rattle.session_parts.proofs.Submits.{named_is_shown, submitted_is_shown}
use Rattle.session_parts.proofs.laws_submits.a_submitted_statement_is_shown.Goals as goal

pub returns-clause-submitted : goal.returns-clause-submitted
returns-clause-submitted c = submitted_is_shown

pub returns-clause-named : goal.returns-clause-named
returns-clause-named c = named_is_shown
