use Rattle.transactions.proofs.Copies.{sessions_shown}
use Rattle.transactions.proofs.laws.a_session_has_its_transaction.Goals as goal

pub returns : goal.returns
returns c = sessions_shown
