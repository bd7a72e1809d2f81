use Rattle.command_line.proofs.SpeltLaws.{words_are_one_command}
use Rattle.command_line.proofs.laws.words_are_one_command.Goals as goal

pub returns : goal.returns
returns c = words_are_one_command
