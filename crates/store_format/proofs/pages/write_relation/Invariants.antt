use Rattle.std.proofs.Common.{◌≡◌, ◌≤◌, take}
use Rattle.std.specs.Prelude.{IsTrue}
use Rattle.store_layout.specs.DiskLayout.{first_offset}
use Rattle.disk_trait.specs.Throughout.{Throughout}
use Rattle.store_format.specs.FreshStore.{IsClosed}
use Rattle.store_format.specs.Gate.{AreClosed}
use Rattle.store_format.specs.Blank.{Freshens}
use Rattle.store_format.proofs.Places.{InFront}
use Rattle.store_format.proofs.pages.write_relation.Given as goal

abbrev pub invariant-places : goal.invariant-places
invariant-places g l = record {
  closed : AreClosed (g.D.Disk.told l.disk);
  all : Throughout (g.D.Disk.told l.fn.disk) (g.D.Disk.told l.disk) IsClosed;
  pages : IsTrue (g.D.Disk.told l.fn.disk).tells_contents → Freshens l.layout (InFront l.layout l.relation l.block) (g.D.Disk.told l.fn.disk).contents (g.D.Disk.told l.disk).contents;
  front : IsTrue (g.D.Disk.told l.fn.disk).tells_contents → take (first_offset l.layout) (g.D.Disk.told l.disk).contents ≡ take (first_offset l.layout) (g.D.Disk.told l.fn.disk).contents;
  later : (g.D.Disk.told l.fn.disk).faults ≤ (g.D.Disk.told l.disk).faults;
}
