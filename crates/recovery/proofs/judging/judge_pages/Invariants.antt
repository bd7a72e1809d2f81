use Rattle.std.proofs.Common.{◌≡◌, ◌≤◌}
use Rattle.std.specs.Prelude.{vec_capacity}
use Rattle.recovery.proofs.PagesJudged.{JudgedRelations}
use Rattle.recovery.proofs.judging.judge_pages.Given as goal

-- the relations below the number are judged, and there is room for the others
abbrev pub invariant-relations : goal.invariant-relations
invariant-relations g l = record {
  pool : l.pool ≡ l.fn.pool;
  same : g.D.Disk.told l.disk ≡ record (g.D.Disk.told l.fn.disk) { faults = (g.D.Disk.told l.disk).faults };
  later : (g.D.Disk.told l.fn.disk).faults ≤ (g.D.Disk.told l.disk).faults;
  room : l.count ≤ vec_capacity l.facts;
  judged : JudgedRelations l.layout l.fn.pool (g.D.Disk.told l.fn.disk) l.relation l.facts.items;
}
