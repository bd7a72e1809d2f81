use Rattle.transactions.proofs.Failures.{look_shown}
use Rattle.transactions.proofs.laws.a_look_is_shown.Goals as goal

pub returns : goal.returns
returns c = look_shown
