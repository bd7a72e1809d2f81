-- a log that is started on what was read
use Rattle.std.proofs.Common.{◌≡◌, ℕ, ◌+◌, ◌%◌, ◌≤◌, List, length, sym, ◌∙◌, ap, subst, arith}
use Rattle.std.specs.Prelude.{IsTrue, Err, slice_index}
use Rattle.block_model.specs.Causes.{rose_earlier}
use Rattle.byte_fields.specs.Fields.{field_at}
use Rattle.store_layout.specs.DiskLayout.{DiskLayout, area_size, disk_size}
use Rattle.disk_trait.specs.Told.{Told}
use Rattle.log_area.specs.Frames.{LogFrame, HoldsFrames, HasFrameThatPasses, row_of}
use Rattle.log_area.specs.Log.{Stands, area_start, areas_end}
use Rattle.log_area.specs.Reading.{AreaCause}
use Rattle.log_area.specs.Started.{StartCause}
use Rattle.log_area.specs.declared.opening.LogFault.{LogFault}
use Rattle.log_area.specs.declared.opening.LogFault.TheVariants.{Damaged, Disk, Memory}

-- both areas are on the disk of the layout
pub areas_on_disk : (d : DiskLayout) → areas_end (area_size d) ≤ disk_size d
unfolding disk_size
areas_on_disk d = omega arith

pub started_stands : (room byte used : ℕ) (frames : List LogFrame) (contents : List ℕ) → byte ≡ slice_index contents 1 → HoldsFrames (field_at contents (area_start room byte) room) frames
    → length (row_of frames) ≡ used → Stands (record { room = room; byte = byte; used = used }) frames contents
started_stands room byte used frames contents is holds long = record {
  side = ap (λ (b : ℕ). b % 2) (sym is);
  holds = subst (λ (b : ℕ). HoldsFrames (field_at contents (area_start room b) room) frames) is holds;
  used = long;
}

pub started_cause : (U : Type 0) (room byte : ℕ) (old new : Told) (faults : ℕ) (fault : LogFault) → (IsTrue old.tells_contents → byte ≡ slice_index old.contents 1) → old.faults ≤ faults
    → AreaCause {T = U} (area_start room byte) room (record old { faults = faults }) new (Err fault) → StartCause room old new fault
started_cause U room byte old new faults (Damaged at) is later cause = λ tells.
    let found = cause.1 tells in
    (found.0, found.1 ∙ ap (λ (b : ℕ). area_start room b + found.0) (is tells), subst (λ (b : ℕ). HasFrameThatPasses (field_at old.contents (area_start room b) room) found.0) (is tells) found.2)
started_cause U room byte old new faults Disk is later cause = rose_earlier old.faults faults new.faults later cause.1
started_cause U room byte old new faults Memory is later cause = tt

pub cause_later : (U : Type 0) (start room : ℕ) (old new : Told) (fault : LogFault) → AreaCause {T = U} start room old new (Err fault) → old.faults ≤ new.faults
cause_later U start room old new (Damaged at) cause = cause.0
cause_later U start room old new Disk cause = cause.0
cause_later U start room old new Memory cause = cause
