use Rattle.tx_table.proofs.Pages.{statuses_one}
use Rattle.tx_table.proofs.laws.statuses_are_one_list.Goals as goal

pub returns : goal.returns
returns c = statuses_one
