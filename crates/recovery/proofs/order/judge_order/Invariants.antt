use Rattle.std.proofs.Common.{◌≡◌, ◌≤◌}
use Rattle.std.specs.Prelude.{IsTrue}
use Rattle.recovery.specs.ShownPages.{shown_pages}
use Rattle.recovery.proofs.AllOrder.{OrderedBelow}
use Rattle.recovery.proofs.order.judge_order.Given as goal

-- the relations below that one are in order
abbrev pub invariant-relations : goal.invariant-relations
invariant-relations g l = record {
  pool : l.pool ≡ l.fn.pool;
  same : g.D.Disk.told l.disk ≡ record (g.D.Disk.told l.fn.disk) { faults = (g.D.Disk.told l.disk).faults };
  later : (g.D.Disk.told l.fn.disk).faults ≤ (g.D.Disk.told l.disk).faults;
  order : IsTrue (g.D.Disk.told l.fn.disk).tells_contents → OrderedBelow l.layout (shown_pages l.layout l.fn.pool (g.D.Disk.told l.fn.disk).contents) l.relation;
}
