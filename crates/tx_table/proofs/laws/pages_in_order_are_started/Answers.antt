use Rattle.tx_table.proofs.InOrder.{all_started}
use Rattle.tx_table.proofs.laws.pages_in_order_are_started.Goals as goal

pub returns : goal.returns
returns c = all_started
