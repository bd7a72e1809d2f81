use Rattle.std.proofs.Common.{◌≡◌, drop, map}
use Rattle.std.specs.Ordering.{nat_cmp}
use Rattle.std.specs.FinMap.{find}
use Rattle.model_laws.specs.declared.sessions.Session.{Session}
use Rattle.model_laws.proofs.sessions.find_transaction.Given as goal

abbrev pub invariant-sessions : goal.invariant-sessions
invariant-sessions l = find nat_cmp l.number (map (λ (s : Session). (s.number, s.transaction)) l.sessions)
    ≡ find nat_cmp l.number (map (λ (s : Session). (s.number, s.transaction)) (drop l.session-index l.sessions))
