use Rattle.transactions.proofs.Copies.{seen_in_copy}
use Rattle.transactions.proofs.laws.a_session_sees_its_copy.Goals as goal

pub returns : goal.returns
returns c = seen_in_copy
