use Rattle.std.proofs.Common.{◌≡◌, ℕ, ◌<◌, ◌≤◌, length}
use Rattle.page_map.specs.PageFacts.{facts_in, no_facts}
use Rattle.recovery.proofs.PagesJudged.{JudgedBelow}
use Rattle.recovery.proofs.judging.judge_relation.Given as goal

-- the pages below the block are judged, and none behind them is noted
abbrev pub invariant-places : goal.invariant-places
invariant-places g l = record {
  pool : l.pool ≡ l.fn.pool;
  same : g.D.Disk.told l.disk ≡ record (g.D.Disk.told l.fn.disk) { faults = (g.D.Disk.told l.disk).faults };
  later : (g.D.Disk.told l.fn.disk).faults ≤ (g.D.Disk.told l.disk).faults;
  long : length l.facts ≡ l.limit;
  judged : JudgedBelow l.layout l.fn.pool (g.D.Disk.told l.fn.disk) l.relation l.block l.facts;
  fresh : (block : ℕ) → l.block ≤ block → block < l.limit → facts_in l.facts block ≡ no_facts;
}
