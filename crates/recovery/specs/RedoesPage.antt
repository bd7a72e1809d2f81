-- one change of a page in a pool
use Rattle.std.specs.Prelude.{◌≡◌, ◌⊎◌, ◌≤◌, ℕ, IsTrue, List, Some, Result, Ok, Err}
use Rattle.block_model.specs.Causes.{Rose}
use Rattle.block_model.specs.declared.place.Place.{Place}
use Rattle.store_layout.specs.DiskLayout.{DiskLayout}
use Rattle.byte_fields.specs.Fields.{AreBytes}
use Rattle.disk_trait.specs.Told.{Told}
use Rattle.wal_record.specs.Changes.{LoggedChange}
use Rattle.page_map.specs.Misfit.{Misfit}
use Rattle.page_map.specs.Redo.{Fits, IsAnew, Means}
use Rattle.page_map.specs.Forms.{form_of}
use Rattle.buffer_pool.specs.PoolState.{HeldPage, PoolState, held_at, with_page}
use Rattle.recovery.specs.Holds.{Holds}
use Rattle.recovery.specs.PageNumbers.{page_number}
use Rattle.recovery.specs.ShownPages.{shown_page}
use Rattle.recovery.specs.declared.redo_fault.Stop.{Stop}
use Rattle.recovery.specs.declared.redo_fault.Stop.TheVariants.{Amiss, Disk}

-- the page is that of pool and disk, where the disk tells it; a change that makes the whole page may go by any
abbrev pub IsPageBefore : DiskLayout → Place → LoggedChange → Told → PoolState → List ℕ → Type 0
IsPageBefore layout place change disk pool page = IsTrue disk.tells_contents → IsAnew change ⊎ (page ≡ shown_page layout pool disk.contents place)

-- the change is made of the page at the place, which is read if it isn't held, and which the pool holds as a dirty one then
pub record RedoesPage (layout : DiskLayout) (place : Place) (change : LoggedChange) (disk : Told) (pool : PoolState) (after : Told) (new : PoolState) : Type 0 where
  pub page : List ℕ
  pub made : List ℕ
  pub before : IsPageBefore layout place change disk pool page
  pub fits : Fits (form_of layout place.relation) page change
  pub means : Means (form_of layout place.relation) page change made
  pub bytes : AreBytes made
  pub read : Told
  pub still : read ≡ record disk { faults = read.faults }
  pub holds : Holds (page_number layout place) made read pool after new

-- the change doesn't fit the page at the place
pub record DoesNotFit (layout : DiskLayout) (place : Place) (change : LoggedChange) (disk : Told) (pool : PoolState) : Type 0 where
  pub page : List ℕ
  pub before : IsPageBefore layout place change disk pool page
  pub misfit : Fits (form_of layout place.relation) page change → ⊥

-- the page that the pool holds is changed, or the change doesn't fit it
abbrev pub ChangesHeld : DiskLayout → Place → LoggedChange → PoolState → PoolState → Result Unit Misfit → Type 0
ChangesHeld layout place change pool new (Ok done) =
    (held : HeldPage) × (made : List ℕ) × (held_at pool (page_number layout place) ≡ Some held) × Fits (form_of layout place.relation) held.content change
    × Means (form_of layout place.relation) held.content change made × AreBytes made × (new ≡ with_page pool (page_number layout place) (record { content = made; log = Some 0 }))
ChangesHeld layout place change pool new (Err misfit) =
    (held : HeldPage) × (held_at pool (page_number layout place) ≡ Some held) × (Fits (form_of layout place.relation) held.content change → ⊥)

-- by the answer: the disk's count didn't fall; the change doesn't fit; the count rose
abbrev pub PageCause : {T : Type 0} → DiskLayout → Place → LoggedChange → Told → PoolState → Told → Result T Stop → Type 0
PageCause layout place change disk pool after (Ok done) = disk.faults ≤ after.faults
PageCause layout place change disk pool after (Err Amiss) = DoesNotFit layout place change disk pool × (disk.faults ≤ after.faults)
PageCause layout place change disk pool after (Err Disk) = (disk.faults ≤ after.faults) × Rose disk.faults after.faults
