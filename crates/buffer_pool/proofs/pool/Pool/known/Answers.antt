use Rattle.std.proofs.Common.{subst}
use Rattle.std.specs.Box.{boxed_slice_items}
use Rattle.buffer_pool.specs.PoolState.{PoolState, IsBounded}
use Rattle.buffer_pool.proofs.Entries.{count_within}
use Rattle.buffer_pool.proofs.pool.Pool.known.Goals as goal

pub returns : goal.returns
returns c = subst (λ (p : PoolState). IsBounded p) c.self.view_is (count_within c.self.inside.table (boxed_slice_items c.self.inside.pages))
