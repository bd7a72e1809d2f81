use Rattle.transactions.proofs.Copies.{ids_apart}
use Rattle.transactions.proofs.laws.ids_of_rows_differ.Goals as goal

pub returns : goal.returns
returns c = ids_apart
