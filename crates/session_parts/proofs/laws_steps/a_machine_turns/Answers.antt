use Rattle.session_parts.proofs.Steps.{machine_turns}
use Rattle.session_parts.proofs.laws_steps.a_machine_turns.Goals as goal

pub returns : goal.returns
returns c = machine_turns
