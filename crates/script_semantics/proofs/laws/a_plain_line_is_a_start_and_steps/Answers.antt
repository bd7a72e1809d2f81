use Rattle.script_semantics.proofs.Orders.{plain_steps, plain_finish, finish_is_plain}
use Rattle.script_semantics.proofs.laws.a_plain_line_is_a_start_and_steps.Goals as goal

pub returns-clause-steps : goal.returns-clause-steps
returns-clause-steps c = plain_steps

pub returns-clause-finish : goal.returns-clause-finish
returns-clause-finish c = plain_finish

pub returns-clause-back : goal.returns-clause-back
returns-clause-back c = finish_is_plain
