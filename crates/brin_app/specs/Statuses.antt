-- the statuses of the program, and those of each refusal of a disk
use Rattle.std.specs.Prelude.{◌≡◌, ◌≢◌, ◌⊎◌, ◌≤◌, ℕ}
use Rattle.block_model.specs.Causes.{Rose}
use Rattle.disk_trait.specs.Told.{Told}
use Rattle.store_layout.specs.DiskLayout.{DiskLayout, disk_size}
use Rattle.store_format.specs.declared.fault.FormatFault.{FormatFault}
use Rattle.store_format.specs.declared.fault.FormatFault.TheVariants as formats
use Rattle.recovery.specs.declared.fault.StartFault.{StartFault}
use Rattle.recovery.specs.declared.fault.StartFault.TheVariants as starts

-- one of the program's: 0, 2, 4 to 9, and 11
pub record IsStatus (status : ℕ) : Type 0 where
  pub most : status ≤ 11
  pub not_one : status ≢ 1
  pub not_three : status ≢ 3
  pub not_ten : status ≢ 10

-- where no store is made
abbrev pub format_status : FormatFault → ℕ
format_status (formats.Size wanted found) = 9
format_status formats.Disk = 6
format_status formats.Memory = 7

-- where none is opened
abbrev pub start_status : StartFault → ℕ
start_status starts.NoStore = 9
start_status (starts.Damaged at) = 11
start_status starts.Disk = 6
start_status starts.Memory = 7

-- a disk of the layout's size is made a store
abbrev pub IsFit : DiskLayout → (old new : Told) → Type 0
IsFit layout old new = (old.size ≡ disk_size layout) × (old.faults ≤ new.faults)

-- it isn't: the disk, of that size, failed; or it hasn't the size, and stays as it was
abbrev pub IsUnfit : ℕ → DiskLayout → (old new : Told) → Type 0
IsUnfit status layout old new = ((status ≡ 6) × Rose old.faults new.faults × (old.size ≡ disk_size layout)) ⊎ ((status ≡ 9) × (old.size ≢ disk_size layout) × (new ≡ old))
