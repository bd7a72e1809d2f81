-- what `set` does, and when it can't
use Rattle.std.specs.Prelude.{◌≡◌, ℕ, ◌<◌, ◌⊎◌, Some, None, IsSome}
use Rattle.std.specs.FinMap as map
use Rattle.buffer_pool.specs.PoolState.{HeldPage, PoolState, IsClean, IsFull, held_at, with_page, without_page}

-- the page is held already, or a frame is empty
abbrev pub HasPlace : PoolState → ℕ → Type 0
HasPlace pool page = IsSome (held_at pool page) ⊎ (map.len pool.pages < pool.frames)

-- The page is held with that content. Where it has a place no other is let go; else one is, and it is clean.
abbrev pub SetsPage : PoolState → ℕ → HeldPage → PoolState → Type 0
SetsPage old page held new =
    (HasPlace old page × (new ≡ with_page old page held))
    ⊎ ((gone : ℕ) × (held_at old page ≡ None) × IsFull old × IsClean old gone × (new ≡ with_page (without_page old gone) page held))

-- the page isn't held, and every frame holds a dirty page
pub record IsAllDirty (pool : PoolState) (page : ℕ) : Type 0 where
  pub absent : held_at pool page ≡ None
  pub full : IsFull pool
  pub dirty : (other : ℕ) (held : HeldPage) → held_at pool other ≡ Some held → IsSome held.log
