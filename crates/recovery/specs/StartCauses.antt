-- what opening a disk answers
use Rattle.std.specs.Prelude.{◌≡◌, ◌⊎◌, ◌≤◌, ℕ, Bool, IsTrue, List, [], take, Result, Ok, Err}
use Rattle.block_model.specs.Causes.{Rose}
use Rattle.block_model.specs.declared.limits.TheConstants.{PAGE_SIZE}
use Rattle.store_layout.specs.DiskLayout.{DiskLayout, area_size, disk_size}
use Rattle.log_area.specs.Frames.{LogFrame}
use Rattle.log_area.specs.Started.{IsDamagedAt}
use Rattle.buffer_pool.specs.PoolState.{PoolState}
use Rattle.recovery.specs.Damage.{HasFrameAmiss}
use Rattle.recovery.specs.RedoesFrame.{AreRedone}
use Rattle.store_format.specs.ControlPage.{HasControl}
use Rattle.disk_trait.specs.Told.{Told}
use Rattle.recovery.specs.declared.fault.StartFault.{StartFault}
use Rattle.recovery.specs.declared.fault.StartFault.TheVariants.{NoStore, Damaged, Disk, Memory}
use Rattle.recovery.specs.Damaged.{IsDamaged}
use Rattle.recovery.specs.Orders.{HasOrderAmiss}
use Rattle.recovery.specs.PageCauses.{HasPageAmiss}

-- a store with this layout is on a disk of that many bytes
pub record HasStore (layout : DiskLayout) (size : ℕ) (contents : List ℕ) : Type 0 where
  pub control : HasControl layout (take PAGE_SIZE contents)
  pub sized : disk_size layout ≡ size

-- none is
abbrev pub HasNoStore : ℕ → List ℕ → Type 0
HasNoStore size contents = (layout : DiskLayout) → HasStore layout size contents → ⊥

-- one is, and it is damaged at this byte
abbrev pub IsDamagedStore : ℕ → List ℕ → ℕ → Type 0
IsDamagedStore size contents at = (layout : DiskLayout) × HasStore layout size contents × IsDamaged layout contents at

-- by the answer, where the disk tells its contents: no store is there; one is, and it is damaged; the disk's count rose; want of memory
abbrev pub StartCause : {T : Type 0} → Told → Told → Result T StartFault → Type 0
StartCause old new (Ok done) = old.faults ≤ new.faults
StartCause old new (Err NoStore) = (IsTrue old.tells_contents → HasNoStore old.size old.contents) × (old.faults ≤ new.faults)
StartCause old new (Err (Damaged at)) = (IsTrue old.tells_contents → IsDamagedStore old.size old.contents at) × (old.faults ≤ new.faults)
StartCause old new (Err Disk) = (old.faults ≤ new.faults) × Rose old.faults new.faults
StartCause old new (Err Memory) = old.faults ≤ new.faults

-- the same of the control page alone, which is never damaged
abbrev pub ControlCause : {T : Type 0} → Told → Told → Result T StartFault → Type 0
ControlCause old new (Err (Damaged at)) = ⊥
ControlCause old new result = StartCause old new result

-- the same of the start of the log
abbrev pub LogStartCause : {T : Type 0} → DiskLayout → Told → Told → Result T StartFault → Type 0
LogStartCause layout old new (Ok done) = old.faults ≤ new.faults
LogStartCause layout old new (Err NoStore) = ⊥
LogStartCause layout old new (Err (Damaged at)) = (IsTrue old.tells_contents → IsDamagedAt (area_size layout) old.contents at) × (old.faults ≤ new.faults)
LogStartCause layout old new (Err Disk) = (old.faults ≤ new.faults) × Rose old.faults new.faults
LogStartCause layout old new (Err Memory) = old.faults ≤ new.faults

-- of the redo of its changes
abbrev pub RedoCause : {T : Type 0} → DiskLayout → ℕ → List LogFrame → Told → PoolState → List Bool → Told → Result T StartFault → Type 0
RedoCause layout area frames disk pool marks after (Ok done) = disk.faults ≤ after.faults
RedoCause layout area frames disk pool marks after (Err NoStore) = ⊥
RedoCause layout area frames disk pool marks after (Err (Damaged at)) =
    ((start : Told) → AreRedone layout frames [] start disk pool marks → IsTrue disk.tells_contents → HasFrameAmiss layout start.contents area frames at) × (disk.faults ≤ after.faults)
RedoCause layout area frames disk pool marks after (Err Disk) = (disk.faults ≤ after.faults) × Rose disk.faults after.faults
RedoCause layout area frames disk pool marks after (Err Memory) = ⊥

-- and of the judging of pages and their order
abbrev pub JudgeCause : {T : Type 0} → DiskLayout → PoolState → Told → Told → Result T StartFault → Type 0
JudgeCause layout pool old new (Ok done) = old.faults ≤ new.faults
JudgeCause layout pool old new (Err NoStore) = ⊥
JudgeCause layout pool old new (Err (Damaged at)) = (IsTrue old.tells_contents → HasPageAmiss layout pool old.contents at ⊎ HasOrderAmiss layout pool old.contents at) × (old.faults ≤ new.faults)
JudgeCause layout pool old new (Err Disk) = (old.faults ≤ new.faults) × Rose old.faults new.faults
JudgeCause layout pool old new (Err Memory) = old.faults ≤ new.faults
