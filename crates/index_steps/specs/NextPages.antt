-- what stands on the block behind the pages of a map
use Rattle.std.specs.Prelude.{◌≡◌, ◌⊎◌, ℕ, ◌==◌, ◌≤◌, ◌<◌, List, replicate, slice_index, slice_index_or, Option, None, Some, if◌then◌else◌}
use Rattle.block_model.specs.declared.place.Place.{Place}
use Rattle.block_model.specs.declared.place.Spot.{Spot}
use Rattle.store_layout.specs.DiskLayout.{DiskLayout}
use Rattle.page_map.specs.PageMap.{PageMap}
use Rattle.index_layout.specs.declared.format.TheConstants.{UNSTARTED, META, MAP, REGULAR, EVACUATED, MAP_ENTRIES}
use Rattle.index_layout.specs.IndexPages.{IsMap}
use Rattle.index_layout.specs.IndexReading.{entries_of}
use Rattle.coverage.specs.IndexView.{Pages, next_map_page}
use Rattle.index_contents.specs.IndexContents.{contents, index_page, relation_of}
use Rattle.index_steps.specs.declared.next.NextPage.{NextPage}
use Rattle.index_steps.specs.declared.next.PageState.{PageState}
use Rattle.index_steps.specs.declared.next.PageState.TheVariants as states

-- a page of the map without entries
abbrev pub IsEmptyMap : List ℕ → Type 0
IsEmptyMap page = IsMap (replicate MAP_ENTRIES None) page

-- an entry of the page names a spot
abbrev pub HasEntry : List ℕ → Type 0
HasEntry page = (entry : ℕ) × (spot : Spot) × (slice_index_or (entries_of page) entry None ≡ Some spot)

-- the page is of this state
abbrev pub IsOfState : List ℕ → PageState → Type 0
IsOfState page states.Unstarted = slice_index page 0 ≡ UNSTARTED
IsOfState page states.LeftOver = IsEmptyMap page
IsOfState page states.Regular = slice_index page 0 ≡ REGULAR
IsOfState page states.Emptying = slice_index page 0 ≡ EVACUATED

-- a page of this state stands on the block behind those that the metapage counts, and the index may have it
pub record StandsNext (layout : DiskLayout) (pages : PageMap) (index block : ℕ) (state : PageState) : Type 0 where
  pub counted : 0 < (contents layout pages index).pages.map_pages
  pub next : block ≡ next_map_page (contents layout pages index).pages
  pub below : block < layout.sizes.index_blocks
  pub is : IsOfState (index_page layout pages index block) state

-- what is found on that block; nothing where the index can't have it
abbrev pub IsNext : DiskLayout → PageMap → ℕ → Option NextPage → Type 0
IsNext layout pages index None = layout.sizes.index_blocks ≤ next_map_page (contents layout pages index).pages
IsNext layout pages index (Some page) = StandsNext layout pages index page.block page.state

-- a page that may not stand there: a second metapage, or a page of the map with entries
abbrev pub IsStray : List ℕ → Type 0
IsStray page = (slice_index page 0 ≡ META) ⊎ ((slice_index page 0 ≡ MAP) × HasEntry page)

-- the metapage counts no page, or such a page stands there
abbrev pub IsNextDamaged : DiskLayout → PageMap → ℕ → Type 0
IsNextDamaged layout pages index = ((contents layout pages index).pages.map_pages ≡ 0)
    ⊎ ((next_map_page (contents layout pages index).pages < layout.sizes.index_blocks) × IsStray (index_page layout pages index (next_map_page (contents layout pages index).pages)))

-- the block that is damaged then: that of the metapage, or the one behind the map
abbrev pub damaged_block : Pages → ℕ
damaged_block pages = if pages.map_pages == 0 then 0 else next_map_page pages

-- the place of a block of the index
abbrev pub place_in : DiskLayout → (index block : ℕ) → Place
place_in layout index block = record { relation = relation_of layout index; block = block }
