use Rattle.std.proofs.Common.{◌≡◌, ◌-◌, ◌*◌, ◌≤◌, length}
use Rattle.block_model.specs.declared.limits.TheConstants.{PAGE_SIZE}
use Rattle.store_layout.specs.DiskLayout.{disk_size}
use Rattle.recovery.specs.PooledPages.{IsReady}
use Rattle.recovery.proofs.InFrames.{InFrame}
use Rattle.recovery.proofs.frames.redo_frame.Given as goal

-- the changes in front of the offset are redone
abbrev pub invariant-changes : goal.invariant-changes
invariant-changes g l = record {
  ready : IsReady l.layout (g.D.Disk.told l.disk).size l.pool;
  frames : l.pool.frames ≡ l.fn.pool.frames;
  marks : PAGE_SIZE * length l.marks ≡ disk_size l.layout;
  redone : InFrame l.layout (record { changes = l.changes; count = l.count }) (g.D.Disk.told l.fn.disk) l.fn.pool l.fn.marks l.at l.left (g.D.Disk.told l.disk) l.pool l.marks;
  later : (g.D.Disk.told l.fn.disk).faults ≤ (g.D.Disk.told l.disk).faults;
}

abbrev pub decreases-changes : goal.decreases-changes
decreases-changes g l = length l.changes - l.at
