use Rattle.std.proofs.Common.{subst}
use Rattle.std.specs.Box.{boxed_slice_items}
use Rattle.buffer_pool.specs.PoolState.{PoolState}
use Rattle.buffer_pool.specs.NextDirty.{IsNextDirty}
use Rattle.buffer_pool.proofs.DirtyPages.{next_dirty_is}
use Rattle.buffer_pool.proofs.pool.Pool.next_dirty.Goals as goal

pub returns-clause-next : goal.returns-clause-next
returns-clause-next c =
    subst (λ (p : PoolState). IsNextDirty p c.args.from c.next_dirty.result) c.self.view_is
    (next_dirty_is c.self.inside.table (boxed_slice_items c.self.inside.pages) c.args.from c.self.invariant.0 c.known.ensures.apart c.next_dirty.result c.next_dirty.ensures.lowest)
