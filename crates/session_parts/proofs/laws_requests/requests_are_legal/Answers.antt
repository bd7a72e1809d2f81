use Rattle.session_parts.proofs.Requests.{begin_is_legal, end_is_legal, look_is_legal, mark_is_legal, put_is_legal}
use Rattle.session_parts.proofs.laws_requests.requests_are_legal.Goals as goal

pub returns-clause-put : goal.returns-clause-put
returns-clause-put c = put_is_legal

pub returns-clause-look : goal.returns-clause-look
returns-clause-look c = look_is_legal

pub returns-clause-mark : goal.returns-clause-mark
returns-clause-mark c = mark_is_legal

pub returns-clause-end : goal.returns-clause-end
returns-clause-end c = end_is_legal

pub returns-clause-begin : goal.returns-clause-begin
returns-clause-begin c = begin_is_legal
