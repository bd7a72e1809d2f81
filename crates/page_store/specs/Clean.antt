-- a pool that no page waits in
use Rattle.std.specs.Prelude.{ℕ}
use Rattle.buffer_pool.specs.PoolState.{IsDirty, PoolState}

-- no page is dirty
abbrev pub AreClean : PoolState → Type 0
AreClean pool = (number waits : ℕ) → IsDirty pool number waits → ⊥
