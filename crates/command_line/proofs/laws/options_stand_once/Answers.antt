use Rattle.command_line.proofs.SpeltLaws.{stands_once}
use Rattle.command_line.proofs.laws.options_stand_once.Goals as goal

pub returns : goal.returns
returns c = stands_once
