use Rattle.command_line.proofs.SpeltLaws.{stored_threads_are_bare}
use Rattle.command_line.proofs.laws.stored_threads_are_bare.Goals as goal

pub returns : goal.returns
returns c = stored_threads_are_bare
