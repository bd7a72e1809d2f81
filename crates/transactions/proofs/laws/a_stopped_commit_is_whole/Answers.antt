use Rattle.transactions.proofs.Parts.{part_shown}
use Rattle.transactions.proofs.laws.a_stopped_commit_is_whole.Goals as goal

pub returns : goal.returns
returns c = part_shown
