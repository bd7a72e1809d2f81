use Rattle.transactions.proofs.Failures.{fails_only}
use Rattle.transactions.proofs.laws.a_refusal_is_a_failure.Goals as goal

pub returns : goal.returns
returns c = fails_only
