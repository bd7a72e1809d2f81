use Rattle.command_line.proofs.SpeltLaws.{order_says_nothing}
use Rattle.command_line.proofs.laws.order_says_nothing.Goals as goal

pub returns : goal.returns
returns c = order_says_nothing
