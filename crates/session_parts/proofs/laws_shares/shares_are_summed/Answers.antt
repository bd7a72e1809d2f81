use Rattle.session_parts.proofs.Shares.{promises_stay, share_is_within, shares_change}
use Rattle.session_parts.proofs.laws_shares.shares_are_summed.Goals as goal

pub returns-clause-change : goal.returns-clause-change
returns-clause-change c = shares_change

pub returns-clause-within : goal.returns-clause-within
returns-clause-within c = share_is_within

pub returns-clause-promised : goal.returns-clause-promised
returns-clause-promised c = promises_stay
