-- the pages of a store as a map of places
use Rattle.std.specs.Prelude.{◌≡◌, ℕ, List, [], Option, length, map, replicate, slice_index, slice_index_or}
use Rattle.block_model.specs.declared.limits.TheConstants.{PAGE_SIZE}
use Rattle.block_model.specs.declared.place.Place.{Place}
use Rattle.page_redo.specs.DiskLayout.{DiskLayout, relation_blocks}

-- of each relation, the pages of its blocks
abbrev pub PageMap : Type 0
PageMap = List (List (List ℕ))

-- a page that isn't started
unfoldable pub unstarted_page : List ℕ
unstarted_page = replicate PAGE_SIZE 0

-- the page of a block of one relation; one that isn't there isn't started
abbrev pub page_in : List (List ℕ) → ℕ → List ℕ
page_in pages block = slice_index_or pages block unstarted_page

-- the page of a block of that relation
abbrev pub block_at : PageMap → ℕ → ℕ → List ℕ
block_at pages relation block = page_in (slice_index_or pages relation []) block

-- the page at a place
abbrev pub page_at : PageMap → Place → List ℕ
page_at pages place = block_at pages place.relation place.block

-- how many blocks the relation may have
abbrev pub block_limit : DiskLayout → ℕ → ℕ
block_limit layout relation = slice_index (relation_blocks layout) relation

-- each relation of the layout has a page for each block that it may have
abbrev pub IsWhole : DiskLayout → PageMap → Type 0
IsWhole layout pages = map length pages ≡ relation_blocks layout

-- a store: its disk, its layout, its pages, and the count of the disk's faults that was kept when one came
pub record View (D : Type 0) : Type 0 where
  pub disk : D
  pub layout : DiskLayout
  pub pages : PageMap
  pub failed : Option ℕ
