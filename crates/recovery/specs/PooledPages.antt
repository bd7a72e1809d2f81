-- the pool of a log that is redone
use Rattle.std.specs.Prelude.{◌≡◌, ◌⊎◌, ℕ, ◌≤◌, None, Some}
use Rattle.store_layout.specs.DiskLayout.{DiskLayout, disk_size}
use Rattle.buffer_pool.specs.PoolState.{HeldPage, PoolState, held_at}
use Rattle.recovery.specs.InPool.{IsHeldPage}

-- what is held at a number is that page of the layout; it is clean, or waits for a change that is durable
abbrev pub IsDurablePage : DiskLayout → ℕ → HeldPage → Type 0
IsDurablePage layout number held = IsHeldPage layout number held.content × ((held.log ≡ None) ⊎ (held.log ≡ Some 0))

-- each page that is held is one
abbrev pub HoldsDurablePages : DiskLayout → PoolState → Type 0
HoldsDurablePages layout pool = (number : ℕ) (held : HeldPage) → held_at pool number ≡ Some held → IsDurablePage layout number held

-- the disk has the size of the layout, and the pool has frames, which hold pages of the layout
pub record IsReady (layout : DiskLayout) (size : ℕ) (pool : PoolState) : Type 0 where
  pub sized : size ≡ disk_size layout
  pub some : 1 ≤ pool.frames
  pub held : HoldsDurablePages layout pool
