use Rattle.transactions.proofs.Openings.{opening_shown}
use Rattle.transactions.proofs.laws.an_opening_ends_all.Goals as goal

pub returns : goal.returns
returns c = opening_shown
