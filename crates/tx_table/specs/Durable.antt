-- what a flush makes sure, and what a stop may leave of the statuses
use Rattle.std.specs.Prelude.{◌≡◌, ◌≢◌, ℕ, IsTrue, List, take}
use Rattle.block_model.specs.declared.place.Place.{Place}
use Rattle.disk_trait.specs.Told.{Told}
use Rattle.page_store.specs.Opens.{OpensAs}
use Rattle.page_map.specs.PageMap.{PageMap, View, page_at}
use Rattle.snapshot_core.specs.declared.statuses.Status.{Status}
use Rattle.store_layout.specs.DiskLayout.{DiskLayout}
use Rattle.tx_table.specs.Statuses.{HasStatuses, IsStartedBlock, status_relation, with_all}

-- the pages are sure: each image that a crash may leave now opens to them
abbrev pub IsDurable : {D : Type 0} → (D → Told) → View D → Type 0
IsDurable told store = (image : List ℕ) → IsTrue ((told store.disk).now image) → OpensAs store.layout image store.pages

-- these are the pages of before
abbrev pub IsBefore : {D : Type 0} → View D → PageMap → Type 0
IsBefore old pages = pages ≡ old.pages

-- pages in which a first part of the list has the status, and nothing else is another; a started page of statuses is one there
pub record HasPart (layout : DiskLayout) (old : PageMap) (list : List ℕ) (status : Status) (pages : PageMap) : Type 0 where
  pub statuses : (statuses : List Status) → HasStatuses layout old statuses → (n : ℕ) × HasStatuses layout pages (with_all statuses (take n list) status)
  pub others : (place : Place) → place.relation ≢ status_relation → page_at pages place ≡ page_at old place
  pub started : (block : ℕ) → IsStartedBlock old block → IsStartedBlock pages block
