use Rattle.session_parts.proofs.FewLocks.{few_locks_each}
use Rattle.session_parts.proofs.laws_shares.each_session_holds_few_locks.Goals as goal

pub returns : goal.returns
returns c = few_locks_each
