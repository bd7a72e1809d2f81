use Rattle.session_parts.proofs.Steps.{finds_nothing, lacks_memory, lacks_number, one_request}
use Rattle.session_parts.proofs.laws_steps.one_request_is_a_step.Goals as goal

pub returns-clause-request : goal.returns-clause-request
returns-clause-request c = one_request

pub returns-clause-memory : goal.returns-clause-memory
returns-clause-memory c = lacks_memory

pub returns-clause-number : goal.returns-clause-number
returns-clause-number c = lacks_number

pub returns-clause-nothing : goal.returns-clause-nothing
returns-clause-nothing c = finds_nothing
