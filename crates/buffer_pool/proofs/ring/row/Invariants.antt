use Rattle.std.proofs.Common.{◌≡◌, ℕ, ◌<◌, length, get_or}
use Rattle.buffer_pool.proofs.ring.row.Given as goal

abbrev pub invariant-frames : goal.invariant-frames
invariant-frames l = record {
  long : length l.row.items ≡ l.frame;
  own : (k : ℕ) → k < l.frame → get_or l.row.items k 0 ≡ k;
}
