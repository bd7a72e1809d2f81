use Rattle.std.proofs.Common.{◌≡◌}
use Rattle.session_threads.proofs.worker.finish.Given as goal

-- so far no step answered the line, and none ended it
abbrev pub invariant-loop : goal.invariant-loop
invariant-loop g l =
    (l.share.amount ≡ l.initial.share.amount) × (l.end.amount ≡ l.initial.end.amount)
    × (l.share.parts ≡ l.initial.share.parts) × (l.end.parts ≡ l.initial.end.parts)
