use Rattle.std.proofs.Common.{◌≡◌, map, take}
use Rattle.summary_directory.specs.Verdicts.{verdict_by}
use Rattle.summary_directory.proofs.verdicts.judge_all.Given as goal

abbrev pub invariant-judges : goal.invariant-judges
invariant-judges l = record {
  same : l.judges ≡ l.fn.judges;
  verdicts : l.verdicts.items ≡ map (verdict_by l.tuples l.conds) (take l.at l.fn.judges);
}
