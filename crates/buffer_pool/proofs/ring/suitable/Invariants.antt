use Rattle.std.proofs.Common.{◌≡◌, ℕ, ◌<◌, ◌≤◌, false, get_or}
use Rattle.buffer_pool.specs.Slots.{slot_at, suits}
use Rattle.buffer_pool.proofs.ring.suitable.Given as goal

abbrev pub invariant-seats : goal.invariant-seats
invariant-seats l = (s : ℕ) → l.from ≤ s → s < l.seat → suits l.wanted (slot_at l.slots (get_or l.members s 0)) ≡ false
