use Rattle.script_semantics.proofs.Waiting.{lock_blocks_plain, lock_blocks_step}
use Rattle.script_semantics.proofs.laws.maintenance_waits_for_the_summarise_lock.Goals as goal

pub returns-clause-step : goal.returns-clause-step
returns-clause-step c = lock_blocks_step

pub returns-clause-plain : goal.returns-clause-plain
returns-clause-plain c = lock_blocks_plain
