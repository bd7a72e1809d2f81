use Rattle.transactions.proofs.Copies.{copy_stands}
use Rattle.transactions.proofs.laws.a_row_of_a_copy_stands_once.Goals as goal

pub returns : goal.returns
returns c = copy_stands
