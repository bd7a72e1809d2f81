-- what judging pages answers
use Rattle.std.specs.Prelude.{◌≡◌, ◌≤◌, ℕ, IsTrue, List, Result, Ok, Err}
use Rattle.block_model.specs.Causes.{Rose}
use Rattle.block_model.specs.declared.place.Place.{Place}
use Rattle.store_layout.specs.DiskLayout.{DiskLayout, IsPlace, page_offset}
use Rattle.disk_trait.specs.Told.{Told}
use Rattle.page_map.specs.Forms.{IsPageIn}
use Rattle.buffer_pool.specs.PoolState.{PoolState}
use Rattle.recovery.specs.ShownPages.{shown_page}
use Rattle.recovery.specs.declared.fault.StartFault.{StartFault}
use Rattle.recovery.specs.declared.fault.StartFault.TheVariants.{NoStore, Damaged, Disk, Memory}

-- the page that begins at this byte doesn't pass the check of its form
pub record HasPageAmiss (layout : DiskLayout) (pool : PoolState) (contents : List ℕ) (at : ℕ) : Type 0 where
  pub place : Place
  pub is : IsPlace layout place
  pub begins : at ≡ page_offset layout place
  pub fails : IsPageIn layout place.relation (shown_page layout pool contents place) → ⊥

-- by the answer: the disk's count didn't fall; a page doesn't pass; the count rose; want of memory
abbrev pub PageCause : {T : Type 0} → DiskLayout → PoolState → Told → Told → Result T StartFault → Type 0
PageCause layout pool old new (Ok done) = old.faults ≤ new.faults
PageCause layout pool old new (Err NoStore) = ⊥
PageCause layout pool old new (Err (Damaged at)) = (IsTrue old.tells_contents → HasPageAmiss layout pool old.contents at) × (old.faults ≤ new.faults)
PageCause layout pool old new (Err Disk) = (old.faults ≤ new.faults) × Rose old.faults new.faults
PageCause layout pool old new (Err Memory) = old.faults ≤ new.faults
