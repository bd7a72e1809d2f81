use Rattle.session_parts.proofs.HeldLocks.{holder_has_lock}
use Rattle.session_parts.proofs.laws_shares.a_holder_has_a_lock.Goals as goal

pub returns : goal.returns
returns c = λ locks page actor is. holder_has_lock locks page actor is
