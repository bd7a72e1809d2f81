use Rattle.std.proofs.Common.{◌≡◌, map, take}
use Rattle.summary_directory.specs.JudgedBlocks.{keeps_cell}
use Rattle.summary_directory.proofs.verdicts.judge_ranges.Given as goal

abbrev pub invariant-each : goal.invariant-each
invariant-each l = record {
  same : l.judge ≡ l.fn.judge;
  kept : l.kept.items ≡ map (keeps_cell l.fn.judge.classes l.conds) (take l.range l.tuples);
}
