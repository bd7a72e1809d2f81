-- the first page of an index for a further tuple, by the page of each block
use Rattle.std.specs.Prelude.{◌≡◌, ℕ, ◌<◌, ◌≤◌, ◌⊎◌, List, slice_index, Option, None, Some}
use Rattle.index_contents.specs.TheConstants.{REGULAR, UNSTARTED}
use Rattle.index_contents.specs.IndexReading.{map_pages_of}
use Rattle.index_contents.specs.IndexWrites.{room_on}

-- a page behind the map pages takes tuples, and has room for so many bytes
abbrev pub HasRoomIn : (ℕ → List ℕ) → ℕ → ℕ → Type 0
HasRoomIn page need block = (map_pages_of (page 0) < block) × (slice_index (page block) 0 ≡ REGULAR) × (need ≤ room_on (page block))

abbrev pub IsUnstartedIn : (ℕ → List ℕ) → ℕ → Type 0
IsUnstartedIn page block = slice_index (page block) 0 ≡ UNSTARTED

-- no page has room
abbrev pub NoneHasRoom : (ℕ → List ℕ) → ℕ → Type 0
NoneHasRoom page need = (block : ℕ) → HasRoomIn page need block → ⊥

-- the lowest block of which this holds
abbrev pub IsLowestOf : (ℕ → Type 0) → ℕ → Type 0
IsLowestOf Is block = Is block × ((other : ℕ) → other < block → Is other → ⊥)

-- the lowest page with room, else the lowest one that isn't started, else none
abbrev pub IsFirstTarget : ℕ → (ℕ → List ℕ) → ℕ → Option ℕ → Type 0
IsFirstTarget limit page need (Some block) = IsLowestOf (HasRoomIn page need) block ⊎ (NoneHasRoom page need × IsLowestOf (IsUnstartedIn page) block × (block < limit))
IsFirstTarget limit page need None = NoneHasRoom page need × ((block : ℕ) → block < limit → IsUnstartedIn page block → ⊥)
