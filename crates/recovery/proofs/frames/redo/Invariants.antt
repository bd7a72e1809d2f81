use Rattle.std.proofs.Common.{◌≡◌, ◌+◌, ◌*◌, ◌≤◌, length, take}
use Rattle.block_model.specs.declared.limits.TheConstants.{PAGE_SIZE}
use Rattle.store_layout.specs.DiskLayout.{disk_size}
use Rattle.disk_trait.specs.Told.{Told}
use Rattle.log_area.specs.Frames.{row_of}
use Rattle.recovery.specs.PooledPages.{IsReady}
use Rattle.recovery.specs.RedoesFrame.{AreRedone}
use Rattle.recovery.proofs.frames.redo.Given as goal

-- the frames in front of that number are redone, and the gate of the next one is known
abbrev pub invariant-frames : goal.invariant-frames
invariant-frames g l = record {
  ready : IsReady l.layout (g.D.Disk.told l.disk).size l.pool;
  same : l.pool.frames ≡ l.fn.pool.frames;
  marks : PAGE_SIZE * length l.marks ≡ disk_size l.layout;
  gate : l.gate ≡ l.area + length (row_of (take l.at l.frames));
  redone : (start : Told) → AreRedone l.layout l.frames (take 0 l.frames) start (g.D.Disk.told l.fn.disk) l.fn.pool l.fn.marks → AreRedone l.layout l.frames (take l.at l.frames) start (g.D.Disk.told l.disk) l.pool l.marks;
  later : (g.D.Disk.told l.fn.disk).faults ≤ (g.D.Disk.told l.disk).faults;
}
