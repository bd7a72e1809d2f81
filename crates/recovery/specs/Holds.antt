-- a page that is held as a dirty one
use Rattle.std.specs.Prelude.{◌≡◌, ◌⊎◌, ℕ, List, None, Some}
use Rattle.disk_trait.specs.Told.{Told}
use Rattle.buffer_pool.specs.PoolState.{HeldPage, PoolState, held_at}
use Rattle.buffer_pool.specs.SetsPage.{SetsPage}
use Rattle.buffer_pool.specs.WritesPage.{Cleans, IsCleanable, WritesAt, place_of}

-- each page that is held is clean, or waits for a change that is durable
abbrev pub AreDurable : PoolState → Type 0
AreDurable pool = (number : ℕ) (held : HeldPage) → held_at pool number ≡ Some held → (held.log ≡ None) ⊎ (held.log ≡ Some 0)

-- nothing was written, or one page, which is clean then
abbrev pub MayClean : Told → PoolState → Told → PoolState → Type 0
MayClean disk pool after new = ((after ≡ disk) × (new ≡ pool)) ⊎ Cleans pool new 0 0 disk after

-- the page of that number is held as a dirty one whose log is durable, once one other may have been written
pub record Holds (number : ℕ) (page : List ℕ) (disk : Told) (pool : PoolState) (after : Told) (new : PoolState) : Type 0 where
  pub mid : PoolState
  pub cleans : MayClean disk pool after mid
  pub sets : SetsPage mid number (record { content = page; log = Some 0 }) new

-- nothing was written, or a dirty page was, whether all of it came or not
abbrev pub MayWrite : Told → PoolState → Told → Type 0
MayWrite disk pool after = (after ≡ disk) ⊎ ((page : ℕ) × (held : HeldPage) × IsCleanable pool 0 page held × WritesAt (place_of 0 page) disk after)
