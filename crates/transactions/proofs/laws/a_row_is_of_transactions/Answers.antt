use Rattle.transactions.proofs.Copies.{row_is_of}
use Rattle.transactions.proofs.laws.a_row_is_of_transactions.Goals as goal

pub returns : goal.returns
returns c = row_is_of
