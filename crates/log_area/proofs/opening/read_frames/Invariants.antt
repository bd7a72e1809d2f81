use Rattle.std.proofs.Common.{◌≡◌, ◌-◌, ◌≤◌, length}
use Rattle.std.specs.Prelude.{IsTrue}
use Rattle.log_area.specs.Reading.{IsFrontOf}
use Rattle.log_area.proofs.Reading.{IsRead}
use Rattle.log_area.proofs.opening.read_frames.Given as goal

-- the frames in front of the gate are read, and the disk is as it was
abbrev pub invariant-frames : goal.invariant-frames
invariant-frames g l = record {
  known : IsTrue (g.D.Disk.told l.fn.disk).tells_contents → IsFrontOf l.area.start l.bytes.items (g.D.Disk.told l.fn.disk).contents;
  within : length l.bytes.items ≤ l.area.room;
  read : IsRead l.bytes.items l.gates.items l.at;
  same : g.D.Disk.told l.disk ≡ record (g.D.Disk.told l.fn.disk) { faults = (g.D.Disk.told l.disk).faults };
  later : (g.D.Disk.told l.fn.disk).faults ≤ (g.D.Disk.told l.disk).faults;
}

abbrev pub decreases-frames : goal.decreases-frames
decreases-frames g l = l.area.room - l.at
