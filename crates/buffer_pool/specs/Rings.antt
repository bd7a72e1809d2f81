-- frames in a ring
use Rattle.std.specs.Prelude.{◌≡◌, ℕ, ◌^◌, ◌<◌, ◌≤◌, Bool, true, false, List, Option, length, map, slice_index, slice_index_or}
use Rattle.buffer_pool.specs.declared.held.Held.{Held}
use Rattle.buffer_pool.specs.declared.held.Wanted.TheVariants as wanted
use Rattle.buffer_pool.specs.Slots.{is_dirty, suits}

-- so many frames and as many seats, each at the other's number
pub record ArePaired (n : ℕ) (members seats : List ℕ) : Type 0 where
  pub members_long : length members ≡ n
  pub seats_long : length seats ≡ n
  pub seat : (k : ℕ) → k < n → (slice_index seats k < n) × (slice_index members (slice_index seats k) ≡ k)
  pub member : (s : ℕ) → s < n → (slice_index members s < n) × (slice_index seats (slice_index members s) ≡ s)

-- a frame is marked
abbrev pub IsIn : List Bool → ℕ → Type 0
IsIn marks frame = slice_index_or marks frame false ≡ true

-- the marked frames sit in the first seats
pub record IsRing (marks : List Bool) (members seats : List ℕ) (count : ℕ) : Type 0 where
  pub paired : ArePaired (length marks) members seats
  pub small : length marks < 2 ^ 32
  pub within : count ≤ length marks
  pub inside : (k : ℕ) → k < length marks → slice_index_or marks k false ≡ true → slice_index seats k < count
  pub outside : (k : ℕ) → k < length marks → slice_index_or marks k false ≡ false → count ≤ slice_index seats k

-- which frames stand in the ring of the clean ones, and which in that of the dirty ones
pub record Standing : Type 0 where
  pub clean : List Bool
  pub dirty : List Bool

-- each frame stands in the ring of what it holds
abbrev pub standing_of : List (Option Held) → Standing
standing_of slots = record { clean = map (suits wanted.Clean) slots; dirty = map is_dirty slots }
