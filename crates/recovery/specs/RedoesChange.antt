-- one change of a log
use Rattle.std.specs.Prelude.{◌≤◌, IsTrue, Bool, List, [], ◌∷◌, ◌++◌, Result, Ok, Err}
use Rattle.block_model.specs.Causes.{Rose}
use Rattle.store_layout.specs.DiskLayout.{DiskLayout}
use Rattle.disk_trait.specs.Told.{Told}
use Rattle.log_area.specs.Frames.{LogFrame}
use Rattle.wal_record.specs.Changes.{LoggedChange}
use Rattle.buffer_pool.specs.PoolState.{PoolState}
use Rattle.recovery.specs.Redoing.{AreFirstOf, AreMarked, CanBeRedone, Redoing}
use Rattle.recovery.specs.declared.redo_fault.Stop.{Stop}
use Rattle.recovery.specs.declared.redo_fault.Stop.TheVariants.{Amiss, Disk}

-- whatever changes of a log are redone, if this one is the next, it is redone too
abbrev pub RedoesChange : DiskLayout → LoggedChange → Told → PoolState → List Bool → Told → PoolState → List Bool → Type 0
RedoesChange layout change disk pool marks after new marked =
    (frames : List LogFrame) (start : Told) (done : List LoggedChange) → Redoing layout frames start done disk pool → AreMarked layout done marks → AreFirstOf frames (done ++ change ∷ [])
    → Redoing layout frames start (done ++ change ∷ []) after new × AreMarked layout (done ++ change ∷ []) marked

-- whatever changes of a log are redone, this one isn't the next
abbrev pub CannotBeNext : DiskLayout → LoggedChange → Told → PoolState → List Bool → Type 0
CannotBeNext layout change disk pool marks =
    (frames : List LogFrame) (start : Told) (done : List LoggedChange) → Redoing layout frames start done disk pool → AreMarked layout done marks → IsTrue disk.tells_contents
    → (more : List LoggedChange) → CanBeRedone layout start.contents (done ++ change ∷ more) → ⊥

-- by the answer: the disk's count didn't fall; the change can't stand there; the count rose
abbrev pub ChangeCause : {T : Type 0} → DiskLayout → LoggedChange → Told → PoolState → List Bool → Told → Result T Stop → Type 0
ChangeCause layout change disk pool marks after (Ok done) = disk.faults ≤ after.faults
ChangeCause layout change disk pool marks after (Err Amiss) = CannotBeNext layout change disk pool marks × (disk.faults ≤ after.faults)
ChangeCause layout change disk pool marks after (Err Disk) = (disk.faults ≤ after.faults) × Rose disk.faults after.faults
