-- what memory keeps of a page, apart from the page
use Rattle.std.specs.Prelude.{◌≡◌, ℕ, List, Option, None, Some, slice_index, slice_index_or}
use Rattle.page_redo.specs.IndexReading.{map_pages_of}
use Rattle.page_redo.specs.IndexWrites.{room_on}
use Rattle.page_redo.specs.Form.{Form}
use Rattle.page_redo.specs.FreeSlots.{AreUsedBelow}
use Rattle.page_redo.specs.PageContents.{HasSlots}
use Rattle.page_redo.specs.SlotsOnPage.{lowest_on, slots_on}
use Rattle.page_redo.specs.Redo.{Fits, Means}
use Rattle.page_redo.specs.Changes.{LoggedChange}
use Rattle.page_map.specs.declared.facts.PageFacts.{PageFacts}

-- its kind, its lowest free slot, the bytes of the greatest further tuple that it takes, and how many pages of the map it counts
abbrev pub facts_on : Form → List ℕ → PageFacts
facts_on form page = record { kind = slice_index page 0; lowest = lowest_on form page; room = room_on page; maps = map_pages_of page }

-- those of a page that isn't started
abbrev pub no_facts : PageFacts
no_facts = record { kind = 0; lowest = None; room = 0; maps = 0 }

-- the facts of the block of that number
abbrev pub facts_in : List PageFacts → ℕ → PageFacts
facts_in facts block = slice_index_or facts block no_facts

-- the change makes the page of one with these facts
pub record IsMadeFrom (form : Form) (facts : PageFacts) (change : LoggedChange) (page : List ℕ) : Type 0 where
  pub before : List ℕ
  pub known : facts ≡ facts_on form before
  pub fits : Fits form before change
  pub means : Means form before change page

-- a heap page into a slot of which a row was put; if that slot was the lowest free one, all below it are in use
abbrev pub HasPutInto : Form → ℕ → Option ℕ → List ℕ → Type 0
HasPutInto form slot lowest page = HasSlots form page (slots_on form page) × (lowest ≡ Some slot → AreUsedBelow slot (slots_on form page))
