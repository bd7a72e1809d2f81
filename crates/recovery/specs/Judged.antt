-- pages that were read and judged, one after the other
use Rattle.std.specs.Prelude.{◌≡◌, ℕ, ◌<◌, IsTrue, List, [], Some, map, length, slice_index_or}
use Rattle.block_model.specs.declared.place.Place.{Place}
use Rattle.store_layout.specs.DiskLayout.{DiskLayout, IsPlace, relation_blocks}
use Rattle.disk_trait.specs.Told.{Told}
use Rattle.page_map.specs.declared.facts.PageFacts.{PageFacts}
use Rattle.page_map.specs.Forms.{IsPageIn, form_of}
use Rattle.page_map.specs.PageFacts.{facts_in, facts_on}
use Rattle.buffer_pool.specs.PoolState.{HeldPage, PoolState, held_at}
use Rattle.recovery.specs.PageNumbers.{page_number}
use Rattle.recovery.specs.ShownPages.{shown_page}

-- the facts of the page at a place
abbrev pub facts_at : List (List PageFacts) → Place → PageFacts
facts_at facts place = facts_in (slice_index_or facts place.relation []) place.block

-- These are the facts of a page that passes its check: of what is held, and where the disk tells its contents of what is shown.
pub record IsJudged (layout : DiskLayout) (pool : PoolState) (disk : Told) (place : Place) (facts : PageFacts) : Type 0 where
  pub page : List ℕ
  pub passes : IsPageIn layout place.relation page
  pub facts_are : facts ≡ facts_on (form_of layout place.relation) page
  pub held : (held : HeldPage) → held_at pool (page_number layout place) ≡ Some held → page ≡ held.content
  pub shown : IsTrue disk.tells_contents → page ≡ shown_page layout pool disk.contents place

-- of one relation, those of the blocks below the limit
pub record AreJudgedIn (layout : DiskLayout) (pool : PoolState) (disk : Told) (relation limit : ℕ) (facts : List PageFacts) : Type 0 where
  pub long : length facts ≡ limit
  pub pages : (block : ℕ) → block < limit → IsJudged layout pool disk (record { relation = relation; block = block }) (facts_in facts block)

-- each page of the layout is
pub record AreJudged (layout : DiskLayout) (pool : PoolState) (facts : List (List PageFacts)) (disk : Told) : Type 0 where
  pub whole : map length facts ≡ relation_blocks layout
  pub pages : (place : Place) → IsPlace layout place → IsJudged layout pool disk place (facts_at facts place)
