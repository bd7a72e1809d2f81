use Rattle.std.proofs.Common.{◌≡◌}
use Rattle.std.specs.Prelude.{false}
use Rattle.session_threads.proofs.worker.work.Given as goal

-- each line so far was answered, and nothing else of the worker has changed
abbrev pub invariant-loop-at : goal.invariant-loop-at
invariant-loop-at g l =
    (l.worker.done ≡ l.at) × (l.worker.share.amount ≡ l.worker.done) × (l.worker.end.amount ≡ 0) × (l.worker.ended ≡ false)
    × (l.worker.share.parts ≡ l.initial.worker.share.parts) × (l.worker.end.parts ≡ l.initial.worker.end.parts)
    × (l.worker.session ≡ l.initial.worker.session) × (l.worker.lines ≡ l.initial.worker.lines)
