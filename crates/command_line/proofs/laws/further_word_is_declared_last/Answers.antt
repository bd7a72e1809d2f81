use Rattle.command_line.specs.declared.command.Command.TheVariants.{Init, Run, Threads}
use Rattle.command_line.proofs.FormLemmas.{is_longer_init, is_longer_run, is_longer_threads}
use Rattle.command_line.proofs.SpeltLaws.{declared_last}
use Rattle.command_line.proofs.laws.further_word_is_declared_last.Goals as goal

pub returns : goal.returns
returns c = (declared_last Init is_longer_init, declared_last Run is_longer_run, declared_last Threads is_longer_threads)
