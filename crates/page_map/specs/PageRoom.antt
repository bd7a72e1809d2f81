-- the room that one page has for a row
use Rattle.std.specs.Prelude.{◌≡◌, ℕ, List, None, Some}
use Rattle.page_redo.specs.Form.{Form}
use Rattle.page_redo.specs.FreeSlots.{lowest_free}
use Rattle.page_redo.specs.PageContents.{HasSlot, HasSlots, IsUnstarted, Slot}
use Rattle.page_redo.specs.Redo.{IsFreeSlot}
use Rattle.page_map.specs.declared.page_room.Room.{Room}
use Rattle.page_map.specs.declared.page_room.Room.TheVariants as rooms

-- the page isn't started; its lowest free slot; or it is started, and no slot of it is free
abbrev pub IsRoom : Form → List ℕ → Room → Type 0
IsRoom form page rooms.NotStarted = IsUnstarted page
IsRoom form page (rooms.Free slot) = IsFreeSlot form page slot × ((slots : List Slot) → HasSlots form page slots → lowest_free slots ≡ Some slot)
IsRoom form page rooms.Full = (IsUnstarted page → ⊥) × ((slots : List Slot) → HasSlots form page slots → lowest_free slots ≡ None)

-- a slot that is told is one of the pages of the form
abbrev pub NamesSlot : Form → Room → Type 0
NamesSlot form (rooms.Free slot) = HasSlot form slot
NamesSlot form room = Unit {0}
