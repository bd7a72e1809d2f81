use Rattle.transactions.proofs.Alike.{shown_alike}
use Rattle.transactions.proofs.laws.other_pages_show_alike.Goals as goal

pub returns : goal.returns
returns c = shown_alike
