use Rattle.std.proofs.Common.{◌≡◌, ◌≢◌, ℕ, ◌-◌, ◌<◌, ◌≤◌, Some, length, get_or}
use Rattle.buffer_pool.specs.Slots.{page_at}
use Rattle.buffer_pool.specs.Table.{bucket_of_page}
use Rattle.buffer_pool.proofs.lookup.frame_of.Given as goal

abbrev pub invariant-bucket : goal.invariant-bucket
invariant-bucket l = record {
  within : l.next ≤ length l.slots;
  same : 0 < l.next → get_or l.buckets.bucket_of (l.next - 1) 0 ≡ bucket_of_page l.mask l.page;
  passed : (k : ℕ) → l.next ≤ k → k < length l.slots → page_at l.slots k ≢ Some l.page;
}

abbrev pub decreases-bucket : goal.decreases-bucket
decreases-bucket l = l.next
