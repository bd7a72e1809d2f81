use Rattle.std.proofs.Common.{◌≡◌, ◌++◌, take, drop, map}
use Rattle.std.specs.Ordering.{nat_cmp}
use Rattle.std.specs.FinMap.{put}
use Rattle.block_model.specs.DatabaseState.{OpenTransaction}
use Rattle.model_laws.specs.declared.sessions.Session.{Session}
use Rattle.model_laws.proofs.sessions.place_in.Given as goal

abbrev pub invariant-sessions : goal.invariant-sessions
invariant-sessions l = (x : OpenTransaction) → put nat_cmp l.number x (map (λ (s : Session). (s.number, s.transaction)) l.sessions)
    ≡ map (λ (s : Session). (s.number, s.transaction)) (take l.i l.sessions) ++ put nat_cmp l.number x (map (λ (s : Session). (s.number, s.transaction)) (drop l.i l.sessions))
