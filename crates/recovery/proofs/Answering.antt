-- which refusals come of which
use Rattle.std.proofs.Common.{ℕ, ◌≤◌, Bool, List, [], arith}
use Rattle.std.specs.Prelude.{IsTrue, Err}
use Rattle.block_model.specs.Causes.{rose_earlier}
use Rattle.block_model.specs.declared.place.Place.{Place}
use Rattle.store_layout.specs.DiskLayout.{DiskLayout}
use Rattle.disk_trait.specs.Told.{Told}
use Rattle.log_area.specs.Frames.{LogFrame}
use Rattle.wal_record.specs.Changes.{LoggedChange}
use Rattle.buffer_pool.specs.PoolState.{PoolState}
use Rattle.recovery.specs.Damage.{HasFrameAmiss}
use Rattle.recovery.specs.RedoesChange.{CannotBeNext, ChangeCause}
use Rattle.recovery.specs.RedoesFrame.{AreRedone, FrameCause, IsAmissNext, LogCause, fault_of}
use Rattle.recovery.specs.RedoesPage.{DoesNotFit, PageCause}
use Rattle.recovery.specs.declared.redo_fault.Stop.{Stop}
use Rattle.recovery.specs.declared.redo_fault.Stop.TheVariants.{Amiss, Disk}

pub change_cause : (T : Type 0) (layout : DiskLayout) (place : Place) (change : LoggedChange) (disk : Told) (pool : PoolState) (marks : List Bool) (after : Told) (stop : Stop) → (DoesNotFit layout place change disk pool → CannotBeNext layout change disk pool marks)
    → PageCause {T = T} layout place change disk pool after (Err stop) → ChangeCause {T = T} layout change disk pool marks after (Err stop)
change_cause T layout place change disk pool marks after Amiss next cause = (next cause.0, cause.1)
change_cause T layout place change disk pool marks after Disk next cause = cause

pub frame_cause : (T : Type 0) (layout : DiskLayout) (frame : LogFrame) (change : LoggedChange) (disk mid : Told) (pool pooled : PoolState) (marks between : List Bool) (after : Told) (stop : Stop) → disk.faults ≤ mid.faults
    → (CannotBeNext layout change mid pooled between → IsAmissNext layout frame disk pool marks) → ChangeCause {T = T} layout change mid pooled between after (Err stop) → FrameCause {T = T} layout frame disk pool marks after (Err stop)
frame_cause T layout frame change disk mid pool pooled marks between after Amiss later next cause = (next cause.0, omega (arith, later, cause.1))
frame_cause T layout frame change disk mid pool pooled marks between after Disk later next cause = (omega (arith, later, cause.0), rose_earlier disk.faults mid.faults after.faults later cause.1)

pub log_cause : (T : Type 0) (layout : DiskLayout) (area gate : ℕ) (frames : List LogFrame) (frame : LogFrame) (disk mid : Told) (pool pooled : PoolState) (marks between : List Bool) (after : Told) (stop : Stop) → disk.faults ≤ mid.faults
    → (IsAmissNext layout frame mid pooled between → (start : Told) → AreRedone layout frames [] start disk pool marks → IsTrue disk.tells_contents → HasFrameAmiss layout start.contents area frames gate)
    → FrameCause {T = T} layout frame mid pooled between after (Err stop) → LogCause {T = T} layout area frames disk pool marks after (Err (fault_of stop gate))
log_cause T layout area gate frames frame disk mid pool pooled marks between after Amiss later next cause = (next cause.0, omega (arith, later, cause.1))
log_cause T layout area gate frames frame disk mid pool pooled marks between after Disk later next cause = (omega (arith, later, cause.0), rose_earlier disk.faults mid.faults after.faults later cause.1)
