use Rattle.transactions.proofs.Calls.{none_open}
use Rattle.transactions.proofs.transactions.Transactions.start.Goals as goal

pub invariant_of-result : goal.invariant_of-result
invariant_of-result g c = none_open c.in-Ok-start.tx c.in-Ok-no_transactions.sessions.items c.in-Ok-no_transactions.ensures
