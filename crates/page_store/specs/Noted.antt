-- facts that are noted
use Rattle.std.specs.Prelude.{◌≡◌, ℕ, List, [], set, slice_index_or, Some}
use Rattle.block_model.specs.declared.place.Place.{Place}
use Rattle.page_layout.specs.declared.page.Form.{Form}
use Rattle.page_map.specs.declared.facts.PageFacts.{PageFacts}
use Rattle.page_map.specs.PageFacts.{IsMadeFrom, facts_on}
use Rattle.page_layout.specs.PageContents.{IsPageOf}
use Rattle.wal_record.specs.Changes.{LoggedChange}
use Rattle.buffer_pool.specs.PoolState.{PoolState}
use Rattle.recovery.specs.ShownPages.{content_at}

-- the page at the place has these facts, and the others have theirs
abbrev pub noted : List (List PageFacts) → Place → PageFacts → List (List PageFacts)
noted facts place found = set facts place.relation (set (slice_index_or facts place.relation []) place.block found)

-- those of the page that is held at the number
pub record NotesHeld (form : Form) (number : ℕ) (pool : PoolState) (place : Place) (old new : List (List PageFacts)) : Type 0 where
  pub page : List ℕ
  pub held : content_at pool number ≡ Some page
  pub passes : IsPageOf form page
  pub facts : new ≡ noted old place (facts_on form page)

-- the page that is held at the number was made by the change of one with these facts
pub record MadeOfFacts (form : Form) (number : ℕ) (change : LoggedChange) (facts : PageFacts) (pool : PoolState) : Type 0 where
  pub page : List ℕ
  pub held : content_at pool number ≡ Some page
  pub passes : IsPageOf form page
  pub made : IsMadeFrom form facts change page
