use Rattle.std.proofs.Common.{◌≢◌, ℕ, ◌<◌, ◌≤◌, Some, get_or}
use Rattle.buffer_pool.specs.LowestDirty.{dirty_page}
use Rattle.buffer_pool.specs.Slots.{slot_at}
use Rattle.buffer_pool.proofs.dirty_order.first_dirty.Given as goal

abbrev pub invariant-pages : goal.invariant-pages
invariant-pages l = (s k : ℕ) → l.next ≤ s → s < l.at → dirty_page l.from (slot_at l.slots k) ≢ Some (get_or l.pages s 0)
