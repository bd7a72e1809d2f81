use Rattle.command_line.proofs.SpeltLaws.{stored_run_is_bare}
use Rattle.command_line.proofs.laws.stored_run_is_bare.Goals as goal

pub returns : goal.returns
returns c = stored_run_is_bare
