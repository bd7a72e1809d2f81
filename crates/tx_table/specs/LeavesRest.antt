-- what a change of a status leaves
use Rattle.std.specs.Prelude.{◌≡◌, ◌≢◌, ℕ, ◌<◌}
use Rattle.block_model.specs.declared.place.Place.{Place}
use Rattle.disk_trait.specs.Told.{Told}
use Rattle.page_map.specs.Keeps.{Keeps, Leaves, Tells}
use Rattle.page_map.specs.declared.faults.StoreError.{StoreError}
use Rattle.page_map.specs.declared.faults.StoreError.TheVariants as errors
use Rattle.page_map.specs.PageMap.{PageMap, View, page_at}
use Rattle.store_layout.specs.DiskLayout.{DiskLayout, page_offset}
use Rattle.tx_table.specs.Statuses.{IsStartedBlock, status_relation}

-- each page of statuses is started, as each is in a store that was formatted
abbrev pub AreStarted : DiskLayout → PageMap → Type 0
AreStarted layout pages = (block : ℕ) → block < layout.sizes.status_blocks → IsStartedBlock pages block

-- What every call of the page store leaves, and where the disk tells its contents every page of another relation; a started
-- page of statuses stays one.
pub record LeavesRest {D : Type 0} (told : D → Told) (old new : View D) : Type 0 where
  pub leaves : Leaves told old new
  pub pages : Tells told old → (place : Place) → place.relation ≢ status_relation → page_at new.pages place ≡ page_at old.pages place
  pub started : Tells told old → (block : ℕ) → IsStartedBlock old.pages block → IsStartedBlock new.pages block

-- damage is told by the byte of the disk at which a page of statuses begins
abbrev pub NamesStatuses : DiskLayout → StoreError → Type 0
NamesStatuses layout (errors.Damaged at) = (block : ℕ) × (block < layout.sizes.status_blocks) × (at ≡ page_offset layout (record { relation = status_relation; block = block }))
NamesStatuses layout error = Unit {0}

-- only a disk fault may come after a status was changed
abbrev pub KeepsUnlessDisk : {D : Type 0} → (D → Told) → View D → View D → StoreError → Type 0
KeepsUnlessDisk told old new errors.Disk = Unit {0}
KeepsUnlessDisk told old new (errors.Reopen faults) = Keeps told old new
KeepsUnlessDisk told old new (errors.Damaged at) = Keeps told old new
