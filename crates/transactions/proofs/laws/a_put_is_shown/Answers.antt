use Rattle.transactions.proofs.Puts.{put_shown}
use Rattle.transactions.proofs.laws.a_put_is_shown.Goals as goal

pub returns : goal.returns
returns c = put_shown
