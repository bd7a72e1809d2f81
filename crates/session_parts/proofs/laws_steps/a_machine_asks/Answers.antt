use Rattle.session_parts.proofs.Steps.{machine_asks}
use Rattle.session_parts.proofs.laws_steps.a_machine_asks.Goals as goal

pub returns : goal.returns
returns c = machine_asks
