-- what is held in a pool before and after a call
use Rattle.std.specs.Prelude.{◌≡◌, ◌⊎◌, ℕ, List, Some}
use Rattle.buffer_pool.specs.PoolState.{PoolState}
use Rattle.recovery.specs.ShownPages.{content_at}

-- the same pages are held, with the same bytes
abbrev pub HoldsAlike : PoolState → PoolState → Type 0
HoldsAlike old new = (number : ℕ) → content_at new number ≡ content_at old number

-- but for the page of that number, what is held was held before, with the same bytes
abbrev pub AddsOnly : ℕ → PoolState → PoolState → Type 0
AddsOnly added old new = (number : ℕ) (bytes : List ℕ) → content_at new number ≡ Some bytes → (number ≡ added) ⊎ (content_at old number ≡ Some bytes)
