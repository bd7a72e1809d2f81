-- one frame of a log, and all of them
use Rattle.std.specs.Prelude.{◌≤◌, ℕ, IsTrue, Bool, List, [], ◌∷◌, ◌++◌, Result, Ok, Err}
use Rattle.block_model.specs.Causes.{Rose}
use Rattle.store_layout.specs.DiskLayout.{DiskLayout}
use Rattle.disk_trait.specs.Told.{Told}
use Rattle.log_area.specs.Frames.{LogFrame}
use Rattle.wal_record.specs.Changes.{LoggedChange}
use Rattle.buffer_pool.specs.PoolState.{PoolState}
use Rattle.recovery.specs.LoggedChanges.{AreLogged}
use Rattle.recovery.specs.Damage.{HasFrameAmiss, IsAmiss}
use Rattle.recovery.specs.Redoing.{AreMarked, IsKept, Redoing}
use Rattle.recovery.specs.declared.redo_fault.RedoFault.{RedoFault}
use Rattle.recovery.specs.declared.redo_fault.RedoFault.TheVariants as faults
use Rattle.recovery.specs.declared.redo_fault.Stop.{Stop}
use Rattle.recovery.specs.declared.redo_fault.Stop.TheVariants as stops

-- the frames in front of this one are redone
pub record IsNextFrame (layout : DiskLayout) (before behind : List LogFrame) (frame : LogFrame) (start : Told) (done : List LoggedChange) (disk : Told) (pool : PoolState) (marks : List Bool) : Type 0 where
  pub logged : AreLogged before done
  pub redoing : Redoing layout (before ++ frame ∷ behind) start done disk pool
  pub marked : AreMarked layout done marks

-- these frames are redone
pub record AreRedone (layout : DiskLayout) (frames some : List LogFrame) (start disk : Told) (pool : PoolState) (marks : List Bool) : Type 0 where
  pub done : List LoggedChange
  pub logged : AreLogged some done
  pub redoing : Redoing layout frames start done disk pool
  pub marked : AreMarked layout done marks

-- of whatever log this frame is the next, it is redone too
abbrev pub RedoesFrame : DiskLayout → LogFrame → Told → PoolState → List Bool → Told → PoolState → List Bool → Type 0
RedoesFrame layout frame disk pool marks after new marked =
    (before behind : List LogFrame) (start : Told) (done : List LoggedChange) → IsNextFrame layout before behind frame start done disk pool marks
    → AreRedone layout (before ++ frame ∷ behind) (before ++ frame ∷ []) start after new marked

-- of whatever log this frame is the next, it is so since the log's start
abbrev pub KeepsMomentsOfFrame : DiskLayout → LogFrame → Told → PoolState → List Bool → Told → Type 0
KeepsMomentsOfFrame layout frame disk pool marks after =
    (before behind : List LogFrame) (start : Told) (done : List LoggedChange) → IsNextFrame layout before behind frame start done disk pool marks → IsKept layout start after

-- of whatever log this frame is the next, it isn't of its form there
abbrev pub IsAmissNext : DiskLayout → LogFrame → Told → PoolState → List Bool → Type 0
IsAmissNext layout frame disk pool marks =
    (before behind : List LogFrame) (start : Told) (done : List LoggedChange) → IsNextFrame layout before behind frame start done disk pool marks → IsTrue disk.tells_contents → IsAmiss layout start.contents done frame

-- by the answer: the disk's count didn't fall; the frame isn't of its form; the count rose
abbrev pub FrameCause : {T : Type 0} → DiskLayout → LogFrame → Told → PoolState → List Bool → Told → Result T Stop → Type 0
FrameCause layout frame disk pool marks after (Ok done) = disk.faults ≤ after.faults
FrameCause layout frame disk pool marks after (Err stops.Amiss) = IsAmissNext layout frame disk pool marks × (disk.faults ≤ after.faults)
FrameCause layout frame disk pool marks after (Err stops.Disk) = (disk.faults ≤ after.faults) × Rose disk.faults after.faults

-- all frames of a log of which none was redone are redone
abbrev pub RedoesLog : DiskLayout → List LogFrame → Told → PoolState → List Bool → Told → PoolState → List Bool → Type 0
RedoesLog layout frames disk pool marks after new marked =
    (start : Told) → AreRedone layout frames [] start disk pool marks → AreRedone layout frames frames start after new marked

-- it is so since the start of the whole log
abbrev pub KeepsMomentsOfLog : DiskLayout → List LogFrame → Told → PoolState → List Bool → Told → Type 0
KeepsMomentsOfLog layout frames disk pool marks after = (start : Told) → AreRedone layout frames [] start disk pool marks → IsKept layout start after

-- the fault of a frame whose gate is that byte
abbrev pub fault_of : Stop → ℕ → RedoFault
fault_of stops.Amiss gate = faults.Damaged gate
fault_of stops.Disk gate = faults.Disk

-- by the answer: the disk's count didn't fall; a frame isn't of its form; the count rose
abbrev pub LogCause : {T : Type 0} → DiskLayout → ℕ → List LogFrame → Told → PoolState → List Bool → Told → Result T RedoFault → Type 0
LogCause layout area frames disk pool marks after (Ok done) = disk.faults ≤ after.faults
LogCause layout area frames disk pool marks after (Err (faults.Damaged at)) =
    ((start : Told) → AreRedone layout frames [] start disk pool marks → IsTrue disk.tells_contents → HasFrameAmiss layout start.contents area frames at) × (disk.faults ≤ after.faults)
LogCause layout area frames disk pool marks after (Err faults.Disk) = (disk.faults ≤ after.faults) × Rose disk.faults after.faults
