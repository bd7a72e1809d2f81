use Rattle.brin_insert.proofs.Calls.{machine_steps, machine_waits}
use Rattle.brin_insert.proofs.laws.an_insert_is_a_machine_of_its_table.Goals as goal

pub returns-clause-steps : goal.returns-clause-steps
returns-clause-steps c = λ s old new before after point goes u at kept. machine_steps s old new before after point goes u at kept

pub returns-clause-waits : goal.returns-clause-waits
returns-clause-waits c = λ s at page shown task waits u is kept. machine_waits s at page shown task waits u is kept
