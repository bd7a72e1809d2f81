use Rattle.std.proofs.Common.{◌≡◌, ◌-◌, ◌≤◌, length}
use Rattle.std.specs.Prelude.{IsTrue}
use Rattle.log_area.specs.Reading.{Extends, IsFrontOf}
use Rattle.log_area.proofs.opening.read_up_to.Given as goal

-- the bytes so far are the front of the area, and the disk is as it was
abbrev pub invariant-pages : goal.invariant-pages
invariant-pages g l = record {
  known : IsTrue (g.D.Disk.told l.fn.disk).tells_contents → IsFrontOf l.area.start l.bytes.items (g.D.Disk.told l.fn.disk).contents;
  within : length l.bytes.items ≤ l.area.room;
  extends : Extends l.fn.bytes.items l.bytes.items;
  same : g.D.Disk.told l.disk ≡ record (g.D.Disk.told l.fn.disk) { faults = (g.D.Disk.told l.disk).faults };
  later : (g.D.Disk.told l.fn.disk).faults ≤ (g.D.Disk.told l.disk).faults;
}

abbrev pub decreases-pages : goal.decreases-pages
decreases-pages g l = l.count - length l.bytes.items
