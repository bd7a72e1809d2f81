use Rattle.command_line.proofs.SpeltLaws.{demos_have_limits}
use Rattle.command_line.proofs.laws.demos_have_limits.Goals as goal

pub returns : goal.returns
returns c = demos_have_limits
