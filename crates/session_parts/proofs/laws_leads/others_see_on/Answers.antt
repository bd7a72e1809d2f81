use Rattle.session_parts.proofs.Leads.{begin_sees_alike, end_sees_alike, mark_leaves_slots, nothing_leaves_slots, put_leaves_slots, same_sees_alike}
use Rattle.session_parts.proofs.laws_leads.others_see_on.Goals as goal

pub returns-clause-put : goal.returns-clause-put
returns-clause-put c = put_leaves_slots

pub returns-clause-mark : goal.returns-clause-mark
returns-clause-mark c = mark_leaves_slots

pub returns-clause-nothing : goal.returns-clause-nothing
returns-clause-nothing c = nothing_leaves_slots

pub returns-clause-begin : goal.returns-clause-begin
returns-clause-begin c = begin_sees_alike

pub returns-clause-end : goal.returns-clause-end
returns-clause-end c = end_sees_alike

pub returns-clause-same : goal.returns-clause-same
returns-clause-same c = same_sees_alike
