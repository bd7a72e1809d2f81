use Rattle.std.proofs.Common.{◌≡◌, ◌≤◌, replicate, None}
use Rattle.std.specs.Vec.{vec_capacity}
use Rattle.store_layout.specs.declared.limits.TheConstants.{MAX_SESSIONS}
use Rattle.snapshot_core.proofs.sessions.no_transactions.Given as goal

abbrev pub invariant-sessions : goal.invariant-sessions
invariant-sessions l = record { made : l.sessions.items ≡ replicate l.counter None; room : MAX_SESSIONS ≤ vec_capacity l.sessions }
