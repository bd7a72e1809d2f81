use Rattle.transactions.proofs.FoundAtStop.{one_found}
use Rattle.transactions.proofs.stop_laws.one_table_is_found.Goals as goal

pub returns : goal.returns
returns c = λ layout pages. one_found layout pages (c.statuses_are_one_list.ensures layout pages)
