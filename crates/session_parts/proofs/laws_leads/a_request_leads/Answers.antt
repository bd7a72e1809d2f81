use Rattle.session_parts.proofs.Leads.{no_request_leads, request_leads, two_requests_lead}
use Rattle.session_parts.proofs.laws_leads.a_request_leads.Goals as goal

pub returns-clause-one : goal.returns-clause-one
returns-clause-one c = request_leads

pub returns-clause-two : goal.returns-clause-two
returns-clause-two c = two_requests_lead

pub returns-clause-none : goal.returns-clause-none
returns-clause-none c = no_request_leads
