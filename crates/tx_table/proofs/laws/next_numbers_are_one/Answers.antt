use Rattle.tx_table.proofs.Lists.{next_one}
use Rattle.tx_table.proofs.laws.next_numbers_are_one.Goals as goal

pub returns : goal.returns
returns c = next_one
