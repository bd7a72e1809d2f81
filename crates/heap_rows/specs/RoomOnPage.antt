-- the room that one page has for a row
use Rattle.std.specs.Prelude.{◌≡◌, ℕ, ◌⊎◌, List, None, Some, replicate, set}
use Rattle.page_layout.specs.declared.page.Form.{Form}
use Rattle.page_layout.specs.RowBytes.{StoredRow}
use Rattle.page_layout.specs.PageContents.{Slot, HasSlots, IsUnstarted}
use Rattle.page_layout.specs.PageWrites.{RowHasBytes}
use Rattle.page_layout.specs.FreeSlots.{slot_count, lowest_free}
use Rattle.page_map.specs.Redo.{IsFreeSlot}
use Rattle.page_map.specs.Forms.{form_of}
use Rattle.page_map.specs.PageMap.{PageMap, page_at}
use Rattle.store_layout.specs.DiskLayout.{DiskLayout}
use Rattle.block_model.specs.declared.place.Place.{Place}

-- the page isn't started, or has a free slot
abbrev pub PageTakesRow : Form → List ℕ → Type 0
PageTakesRow form page = IsUnstarted page ⊎ ((slot : ℕ) × IsFreeSlot form page slot)

-- the slots that a page has; where it isn't started, those that a start gives it, all free
abbrev pub HasSlotsOnceStarted : Form → List ℕ → List Slot → Type 0
HasSlotsOnceStarted form page slots = HasSlots form page slots ⊎ (IsUnstarted page × (slots ≡ replicate (slot_count form) None))

-- the row stands in the slot, which was the lowest free one
abbrev pub PutsRow : Form → List ℕ → StoredRow → ℕ → List ℕ → Type 0
PutsRow form old row slot new = (slots : List Slot) → HasSlotsOnceStarted form old slots → (lowest_free slots ≡ Some slot) × HasSlots form new (set slots slot (Some row))

-- so it is of whatever row has the bytes
abbrev pub PutsBytes : Form → List ℕ → List ℕ → ℕ → List ℕ → Type 0
PutsBytes form bytes old slot new = (row : StoredRow) → RowHasBytes form bytes row → PutsRow form old row slot new

-- on the page at a place
abbrev pub PutsBytesAt : DiskLayout → Place → List ℕ → PageMap → PageMap → ℕ → Type 0
PutsBytesAt layout place bytes old new slot = PutsBytes (form_of layout place.relation) bytes (page_at old place) slot (page_at new place)
