-- the pages of frames as a map
use Rattle.std.specs.Prelude.{◌≡◌, ◌≢◌, ℕ, ◌<◌, ◌⊎◌, List, [], ◌∷◌, Option, Some, None, length, true}
use Rattle.std.specs.FinMap as map
use Rattle.buffer_pool.specs.declared.held.Held.{Held}
use Rattle.buffer_pool.specs.declared.held.Wanted.TheVariants as wanted
use Rattle.buffer_pool.specs.PoolState.{HeldPage, PoolState}
use Rattle.buffer_pool.specs.Slots.{IsAbsent, is_dirty, page_at, slot_at, suits}

-- what a frame with these bytes adds to the pages
abbrev pub entry_onto : Option Held → List ℕ → List (ℕ × HeldPage) → List (ℕ × HeldPage)
entry_onto None page rest = rest
entry_onto (Some held) page rest = (held.page, record { content = page; log = held.log }) ∷ rest

-- the pages of the frames
abbrev pub entries_of : List (Option Held) → List (List ℕ) → List (ℕ × HeldPage)
entries_of [] pages = []
entries_of (slot ∷ slots) [] = []
entries_of (slot ∷ slots) (page ∷ pages) = entry_onto slot page (entries_of slots pages)

-- what contracts see of the frames
abbrev pub shown : List (Option Held) → List (List ℕ) → PoolState
shown slots pages = record { frames = length slots; pages = map.from_entries (entries_of slots pages) }

-- each frame holds a page
abbrev pub AreFilled : List (Option Held) → Type 0
AreFilled slots = (k : ℕ) → k < length slots → page_at slots k ≢ None

-- the frame holds the page; or none does, and this one is empty, or none is empty and this one's page is clean
abbrev pub IsFrameFor : List (Option Held) → ℕ → ℕ → Type 0
IsFrameFor slots page frame =
    (page_at slots frame ≡ Some page)
    ⊎ (IsAbsent slots page × (page_at slots frame ≡ None))
    ⊎ (IsAbsent slots page × AreFilled slots × (suits wanted.Clean (slot_at slots frame) ≡ true))

-- no frame holds the page, and each holds a dirty one
abbrev pub HasNoFrame : List (Option Held) → ℕ → Type 0
HasNoFrame slots page = IsAbsent slots page × AreFilled slots × ((k : ℕ) → k < length slots → is_dirty (slot_at slots k) ≡ true)
