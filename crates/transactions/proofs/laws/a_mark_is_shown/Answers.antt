use Rattle.transactions.proofs.Marks.{mark_shown}
use Rattle.transactions.proofs.laws.a_mark_is_shown.Goals as goal

pub returns : goal.returns
returns c = mark_shown
