use Rattle.std.proofs.Common.{◌≡◌, ℕ, ◌<◌, ◌≤◌, length, get_or, cond}
use Rattle.std.specs.Prelude.{◌==◌, ◌/◌, ◌%◌}
use Rattle.disk_trait.proofs.memory_disk.stripe.Given as goal

-- the bytes so far are mixed, and all others are as they were
abbrev pub invariant-bytes : goal.invariant-bytes
invariant-bytes l =
    record {
      length : length l.mixed.items ≡ length l.fn.mixed.items;
      mixed : (i : ℕ) → i < l.k → get_or l.mixed.items i 0 ≡ cond ((i / l.width) % 2 == 0) (get_or l.fn.mixed.items i 0) (get_or l.new i 0);
      others : (i : ℕ) → l.k ≤ i → get_or l.mixed.items i 0 ≡ get_or l.fn.mixed.items i 0;
    }
