use Rattle.session_parts.proofs.Steps.{turn_asks, turn_conflicts, turn_goes_on, turn_is_refused, turn_replies, turn_waits}
use Rattle.session_parts.proofs.laws_steps.a_turn_is_a_step.Goals as goal

pub returns-clause-goes_on : goal.returns-clause-goes_on
returns-clause-goes_on c = turn_goes_on

pub returns-clause-asks : goal.returns-clause-asks
returns-clause-asks c = turn_asks

pub returns-clause-replies : goal.returns-clause-replies
returns-clause-replies c = turn_replies

pub returns-clause-conflicts : goal.returns-clause-conflicts
returns-clause-conflicts c = turn_conflicts

pub returns-clause-refused : goal.returns-clause-refused
returns-clause-refused c = turn_is_refused

pub returns-clause-waits : goal.returns-clause-waits
returns-clause-waits c = turn_waits
