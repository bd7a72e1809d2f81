use Rattle.transactions.proofs.Scans.{found_shown}
use Rattle.transactions.proofs.laws.rows_found_are_what_stands.Goals as goal

pub returns : goal.returns
returns c = found_shown
