use Rattle.transactions.proofs.Shown.{one_shown}
use Rattle.transactions.proofs.laws.one_database.Goals as goal

pub returns : goal.returns
returns c = one_shown
