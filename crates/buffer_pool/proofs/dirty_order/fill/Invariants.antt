use Rattle.std.proofs.Common.{◌≡◌, ℕ, ◌<◌, length, get_or}
use Rattle.buffer_pool.specs.InOrder.{page_number}
use Rattle.buffer_pool.specs.Slots.{slot_at}
use Rattle.buffer_pool.proofs.dirty_order.fill.Given as goal

abbrev pub invariant-frames : goal.invariant-frames
invariant-frames l = record {
  long : length l.pages ≡ length l.frames;
  filled : (s : ℕ) → s < l.at → get_or l.pages s 0 ≡ page_number (slot_at l.slots (get_or l.frames s 0));
}
