-- why the frames of an area aren't read
use Rattle.std.proofs.Common.{ℕ, ◌≤◌, arith}
use Rattle.std.specs.Prelude.{IsTrue, Err}
use Rattle.block_model.specs.Causes.{rose_earlier}
use Rattle.byte_fields.specs.Fields.{field_at}
use Rattle.disk_trait.specs.Told.{Told}
use Rattle.log_area.specs.Frames.{HasFrameThatPasses}
use Rattle.log_area.specs.Reading.{PassesAt, FrameCause, AreaCause}
use Rattle.log_area.specs.declared.opening.LogFault.{LogFault}
use Rattle.log_area.specs.declared.opening.LogFault.TheVariants.{Damaged, Disk, Memory}

-- a frame that isn't read, behind others that were
pub area_cause : (T U : Type 0) (start room gate : ℕ) (old new : Told) (faults : ℕ) (fault : LogFault) → old.faults ≤ faults
    → (IsTrue old.tells_contents → PassesAt (field_at old.contents start room) gate → HasFrameThatPasses (field_at old.contents start room) gate)
    → FrameCause {T = T} start room gate (record old { faults = faults }) new (Err fault) → AreaCause {T = U} start room old new (Err fault)
area_cause T U start room gate old new faults (Damaged at) later found cause = (omega (arith, later, cause.1), λ tells. (gate, cause.0, found tells (cause.2 tells)))
area_cause T U start room gate old new faults Disk later found cause = (omega (arith, later, cause.0), rose_earlier old.faults faults new.faults later cause.1)
area_cause T U start room gate old new faults Memory later found cause = omega (arith, later, cause)
