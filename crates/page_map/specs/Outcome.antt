-- when a call is done, and when each error comes
use Rattle.std.specs.Prelude.{◌≡◌, ◌≤◌, Some, None, Result, Ok, Err}
use Rattle.block_model.specs.Causes.{Rose}
use Rattle.block_model.specs.declared.place.Place.{Place}
use Rattle.page_redo.specs.DiskLayout.{DiskLayout, page_offset}
use Rattle.disk_trait.specs.Told.{Told}
use Rattle.page_map.specs.declared.faults.StoreError.{StoreError}
use Rattle.page_map.specs.declared.faults.StoreError.TheVariants as errors
use Rattle.page_map.specs.PageMap.{View}

-- A disk fault comes only where the count of faults rose, and is kept with the count; from then on each call answers it.
-- Damage is found only where it has its cause.
abbrev pub Refused : {D : Type 0} → (D → Told) → Type 0 → View D → View D → StoreError → Type 0
Refused told Cause old new errors.Disk = (old.failed ≡ None) × Rose (told old.disk).faults (told new.disk).faults × (new.failed ≡ Some (told new.disk).faults)
Refused told Cause old new (errors.Reopen faults) = (old.failed ≡ Some faults) × (new.failed ≡ Some faults) × ((told old.disk).faults ≤ (told new.disk).faults)
Refused told Cause old new (errors.Damaged at) = (old.failed ≡ None) × (new.failed ≡ None) × ((told old.disk).faults ≤ (told new.disk).faults) × Cause

-- a call is done only where no disk fault was kept
abbrev pub Outcome : {D T : Type 0} → (D → Told) → Type 0 → View D → View D → Result T StoreError → Type 0
Outcome told Cause old new (Ok value) = (old.failed ≡ None) × (new.failed ≡ None) × ((told old.disk).faults ≤ (told new.disk).faults)
Outcome told Cause old new (Err error) = Refused told Cause old new error

-- the disk failed in an earlier call
abbrev pub IsReopen : StoreError → Type 0
IsReopen (errors.Reopen faults) = Unit {0}
IsReopen error = ⊥

-- damage is told by the byte of the disk at which the page at the place begins
abbrev pub NamesPage : DiskLayout → Place → StoreError → Type 0
NamesPage layout place (errors.Damaged at) = at ≡ page_offset layout place
NamesPage layout place error = Unit {0}
