use Rattle.transactions.proofs.Marks.{conflict_shown}
use Rattle.transactions.proofs.laws.a_conflict_is_shown.Goals as goal

pub returns : goal.returns
returns c = conflict_shown
