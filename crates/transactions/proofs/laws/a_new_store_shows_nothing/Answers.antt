use Rattle.transactions.proofs.Openings.{new_shown}
use Rattle.transactions.proofs.laws.a_new_store_shows_nothing.Goals as goal

pub returns : goal.returns
returns c = new_shown
