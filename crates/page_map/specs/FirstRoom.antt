-- where the next row or tuple of a relation may stand, by the form, the limit and the pages of its blocks
use Rattle.std.specs.Prelude.{◌≡◌, ℕ, ◌<◌, ◌≤◌, ◌⊎◌, List, Option, Some, None, slice_index}
use Rattle.page_redo.specs.TheConstants.{REGULAR}
use Rattle.page_redo.specs.IndexWrites.{room_on}
use Rattle.page_redo.specs.Form.{Form}
use Rattle.page_redo.specs.Form.TheVariants as forms
use Rattle.page_redo.specs.PageContents.{IsUnstarted}
use Rattle.page_redo.specs.Redo.{IsFreeSlot}
use Rattle.page_map.specs.Forms.{form_of}
use Rattle.page_map.specs.PageMap.{PageMap, block_at, block_limit}
use Rattle.page_redo.specs.DiskLayout.{DiskLayout}

-- a page has room for that many bytes: one of tuples of an index, unless it is being evacuated, if a further tuple may have so many; one of a heap if a slot is free
abbrev pub PageHasRoom : Form → ℕ → List ℕ → Type 0
PageHasRoom forms.Index need page = (slice_index page 0 ≡ REGULAR) × (need ≤ room_on page)
PageHasRoom form need page = (slot : ℕ) × IsFreeSlot form page slot

-- the block is looked at: in an index it comes behind the map pages, of which there are `past`; elsewhere each one is
abbrev pub IsLookedAt : Form → ℕ → ℕ → Type 0
IsLookedAt forms.Index past block = past < block
IsLookedAt form past block = Unit {0}

-- the lowest block that is looked at and has room
pub record IsFirstWithRoom (form : Form) (limit need past : ℕ) (page : ℕ → List ℕ) (block : ℕ) : Type 0 where
  pub below : block < limit
  pub looked_at : IsLookedAt form past block
  pub room : PageHasRoom form need (page block)
  pub lower : (other : ℕ) → other < block → IsLookedAt form past other → PageHasRoom form need (page other) → ⊥

-- no block that is looked at has room, and this is the lowest one that isn't started
pub record IsNextUnstarted (form : Form) (limit need past : ℕ) (page : ℕ → List ℕ) (block : ℕ) : Type 0 where
  pub below : block < limit
  pub unstarted : IsUnstarted (page block)
  pub lower : (other : ℕ) → other < block → IsUnstarted (page other) → ⊥
  pub no_room : (other : ℕ) → IsLookedAt form past other → PageHasRoom form need (page other) → ⊥

-- no block that is looked at has room, and each below the limit is started
pub record IsRelationFull (form : Form) (limit need past : ℕ) (page : ℕ → List ℕ) : Type 0 where
  pub started : (block : ℕ) → block < limit → IsUnstarted (page block) → ⊥
  pub no_room : (block : ℕ) → IsLookedAt form past block → PageHasRoom form need (page block) → ⊥

-- the lowest block that has room, else the lowest one that isn't started, else none
abbrev pub IsFirstRoom : Form → ℕ → ℕ → ℕ → (ℕ → List ℕ) → Option ℕ → Type 0
IsFirstRoom form limit need past page (Some block) = IsFirstWithRoom form limit need past page block ⊎ IsNextUnstarted form limit need past page block
IsFirstRoom form limit need past page None = IsRelationFull form limit need past page

-- that of a relation of a store
abbrev pub IsFirstRoomOf : DiskLayout → PageMap → ℕ → ℕ → ℕ → Option ℕ → Type 0
IsFirstRoomOf layout pages relation need past answer = IsFirstRoom (form_of layout relation) (block_limit layout relation) need past (block_at pages relation) answer
