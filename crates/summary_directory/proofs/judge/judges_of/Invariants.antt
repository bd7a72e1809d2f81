use Rattle.std.proofs.Common.{◌≡◌, ◌++◌, map, drop}
use Rattle.index_steps.specs.ShownTable.{numbers_from}
use Rattle.bitmap_scan.specs.ScanHands.{scanned_index}
use Rattle.summary_directory.proofs.judge.judges_of.Given as goal

abbrev pub invariant-indexes : goal.invariant-indexes
invariant-indexes l = record {
  counted : l.number ≡ l.index-index;
  scanned : l.judges.items ++ map (scanned_index l.layout) (numbers_from l.table l.number (drop l.index-index l.layout.schema.indexes)) ≡ map (scanned_index l.layout) (numbers_from l.table 0 l.layout.schema.indexes);
}
