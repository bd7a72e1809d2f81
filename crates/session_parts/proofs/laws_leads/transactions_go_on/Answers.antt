use Rattle.session_parts.proofs.Fronts.{failure_stays_within, look_stays_within, mark_stays_within, put_stays_within}
use Rattle.session_parts.proofs.laws_leads.transactions_go_on.Goals as goal

pub returns-clause-put : goal.returns-clause-put
returns-clause-put c = put_stays_within

pub returns-clause-mark : goal.returns-clause-mark
returns-clause-mark c = mark_stays_within

pub returns-clause-look : goal.returns-clause-look
returns-clause-look c = look_stays_within

pub returns-clause-failure : goal.returns-clause-failure
returns-clause-failure c = failure_stays_within
