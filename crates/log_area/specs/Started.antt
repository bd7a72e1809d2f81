-- what the start of a log answers
use Rattle.std.specs.Prelude.{◌≡◌, ℕ, ◌+◌, List, IsTrue, slice_index}
use Rattle.block_model.specs.Causes.{Rose}
use Rattle.disk_trait.specs.Told.{Told}
use Rattle.log_area.specs.Frames.{HasFrameThatPasses}
use Rattle.log_area.specs.Log.{area_start, chosen_area}
use Rattle.log_area.specs.declared.opening.LogFault.{LogFault}
use Rattle.log_area.specs.declared.opening.LogFault.TheVariants.{Damaged, Disk, Memory}

-- an opened frame of the chosen area passes it, and its gate is this byte of the disk
abbrev pub IsDamagedAt : ℕ → List ℕ → ℕ → Type 0
IsDamagedAt room image at = (offset : ℕ) × (at ≡ area_start room (slice_index image 1) + offset) × HasFrameThatPasses (chosen_area room image) offset

-- by the refusal: the bytes say so, where the disk tells them; its count of faults rose; want of memory
abbrev pub StartCause : ℕ → Told → Told → LogFault → Type 0
StartCause room old new (Damaged at) = IsTrue old.tells_contents → IsDamagedAt room old.contents at
StartCause room old new Disk = Rose old.faults new.faults
StartCause room old new Memory = Unit {0}
