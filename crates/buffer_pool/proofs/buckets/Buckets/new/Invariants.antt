use Rattle.buffer_pool.proofs.Filled.{AreFramesFilled, AreHeadsFilled}
use Rattle.buffer_pool.proofs.buckets.Buckets.new.Given as goal

abbrev pub invariant-frames : goal.invariant-frames
invariant-frames l = AreFramesFilled l.frame l.last l.bucket_of.items l.below.items

abbrev pub invariant-heads : goal.invariant-heads
invariant-heads l = AreHeadsFilled l.frames l.bucket l.last l.bucket_of.items l.below.items
