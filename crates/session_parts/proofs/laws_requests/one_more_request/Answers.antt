use Rattle.session_parts.proofs.Requests.{one_more_is_legal, one_more_is_run}
use Rattle.session_parts.proofs.laws_requests.one_more_request.Goals as goal

pub returns-clause-legal : goal.returns-clause-legal
returns-clause-legal c = one_more_is_legal

pub returns-clause-run : goal.returns-clause-run
returns-clause-run c = one_more_is_run
