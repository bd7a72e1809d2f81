use Rattle.transactions.proofs.Failures.{failure_shown}
use Rattle.transactions.proofs.laws.a_failure_is_shown.Goals as goal

pub returns : goal.returns
returns c = failure_shown
