-- what memory keeps of the pages of a store
use Rattle.std.specs.Prelude.{◌≡◌, ℕ, ◌<◌, Bool, IsTrue, List, [], Option, None, Some, map, length, slice_index_or}
use Rattle.block_model.specs.declared.place.Place.{Place}
use Rattle.store_layout.specs.DiskLayout.{DiskLayout, IsPlace, relation_blocks}
use Rattle.page_layout.specs.declared.page.Form.{Form}
use Rattle.page_layout.specs.PageContents.{HasSlot}
use Rattle.buffer_pool.specs.PoolState.{PoolState}
use Rattle.page_map.specs.declared.facts.PageFacts.{PageFacts}
use Rattle.page_map.specs.Forms.{form_of}
use Rattle.page_map.specs.PageFacts.{facts_in, facts_on}
use Rattle.page_map.specs.PageMap.{PageMap, page_at}
use Rattle.disk_trait.specs.Told.{Told}
use Rattle.recovery.specs.PageNumbers.{page_number}
use Rattle.recovery.specs.ShownPages.{content_at}
use Rattle.page_store.specs.LoggedState.{LoggedState, store_of}

-- of each relation the facts of its pages, by their blocks
abbrev pub facts_at : List (List PageFacts) → Place → PageFacts
facts_at facts place = facts_in (slice_index_or facts place.relation []) place.block

-- the page at the place has facts
pub record IsFactPlace (facts : List (List PageFacts)) (place : Place) : Type 0 where
  pub relation : place.relation < length facts
  pub block : place.block < length (slice_index_or facts place.relation [])

-- a slot that is told is one of the pages of the form
abbrev pub IsSlotOf : Form → Option ℕ → Type 0
IsSlotOf form None = Unit {0}
IsSlotOf form (Some slot) = HasSlot form slot

-- Each page of the layout has its facts. They are those of what is held, and where the disk tells its contents those of each page.
pub record AreFactsOf (tells : Bool) (layout : DiskLayout) (pool : PoolState) (pages : PageMap) (facts : List (List PageFacts)) : Type 0 where
  pub whole : map length facts ≡ relation_blocks layout
  pub held : (place : Place) (bytes : List ℕ) → IsPlace layout place → content_at pool (page_number layout place) ≡ Some bytes → facts_at facts place ≡ facts_on (form_of layout place.relation) bytes
  pub known : IsTrue tells → (place : Place) → IsPlace layout place → facts_at facts place ≡ facts_on (form_of layout place.relation) (page_at pages place)
  pub slots : (place : Place) → IsPlace layout place → IsSlotOf (form_of layout place.relation) (facts_at facts place).lowest

-- those of pages with a log
abbrev pub AreKnown : {D : Type 0} → (D → Told) → LoggedState D → List (List PageFacts) → Type 0
AreKnown told s facts = AreFactsOf (told s.disk).tells_contents s.layout s.pool (store_of told s).pages facts
