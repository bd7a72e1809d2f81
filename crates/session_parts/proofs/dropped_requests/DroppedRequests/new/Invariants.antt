use Rattle.std.proofs.Common.{◌≡◌, ◌≤◌, [], replicate}
use Rattle.std.specs.Vec.{vec_capacity}
use Rattle.store_layout.specs.declared.limits.TheConstants.{MAX_SESSIONS}
use Rattle.session_parts.proofs.dropped_requests.DroppedRequests.new.Given as goal

abbrev pub invariant-sessions : goal.invariant-sessions
invariant-sessions l = record { made : l.lists.items ≡ replicate l.counter []; room : MAX_SESSIONS ≤ vec_capacity l.lists }
