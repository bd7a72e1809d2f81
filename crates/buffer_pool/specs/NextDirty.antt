-- dirty pages in order of their places
use Rattle.std.specs.Prelude.{ℕ, ◌≤◌, Option, Some, None}
use Rattle.buffer_pool.specs.PoolState.{PoolState, IsDirty}

-- the page is the lowest dirty one from that number on; where there is none, no page from it on is dirty
abbrev pub IsNextDirty : PoolState → ℕ → Option ℕ → Type 0
IsNextDirty pool from None = (page log : ℕ) → from ≤ page → ¬ IsDirty pool page log
IsNextDirty pool from (Some next) = (from ≤ next) × ((log : ℕ) × (IsDirty pool next log)) × ((page log : ℕ) → from ≤ page → IsDirty pool page log → next ≤ page)
