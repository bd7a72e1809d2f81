use Rattle.script_laws.proofs.Entering.{steps_enter_few}
use Rattle.script_laws.proofs.requests.a_step_enters_few_requests.Goals as goal

pub returns : goal.returns
returns c = steps_enter_few
