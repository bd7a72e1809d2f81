use Rattle.std.proofs.Common.{◌≡◌, ◌+◌, ◌<◌, ℕ, false, length}
use Rattle.std.specs.Prelude.{All, slice_index_or}
use Rattle.plain_script.specs.SessionLines.{numbers_of}
use Rattle.threads_run.proofs.workers.idle_workers.Given as goal

-- each session so far has its worker, and each book a part for every other one
abbrev pub invariant-loop-session : goal.invariant-loop-session
invariant-loop-session g l =
    record {
      count : length l.workers.items ≡ l.session;
      fresh : All (λ w. (w.done ≡ 0) × (w.ended ≡ false) × (w.share.amount ≡ 0) × (w.end.amount ≡ 0)) l.workers.items;
      parts : All (λ w. (w.share.parts ≡ 1) × (w.end.parts ≡ 1)) l.workers.items;
      lines : (i : ℕ) (d : _) → i < length l.workers.items → ((slice_index_or l.workers.items i d).session ≡ i) × ((slice_index_or l.workers.items i d).lines ≡ numbers_of i l.lines.script.lines);
      left : (l.share.parts + l.session ≡ length l.lines.script.names + 1) × (l.end.parts + l.session ≡ length l.lines.script.names + 1) × (l.share.amount ≡ 0) × (l.end.amount ≡ 0);
    }
