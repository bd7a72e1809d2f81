use Rattle.std.proofs.Common.{ap}
use Rattle.page_locks.specs.LockHolders.{Holders, LockState}
use Rattle.page_locks.proofs.Takings.{given_back}
use Rattle.page_locks.proofs.laws.a_taken_lock_is_given_back.Goals as goal

pub returns : goal.returns
returns c =
    let s : LockState = c.args.locks.now in
    ap (λ (m : Holders). record s { holders = m }) (given_back s.holders c.args.page c.args.actor c.requires)
