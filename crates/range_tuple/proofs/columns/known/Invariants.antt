use Rattle.std.proofs.Common.{All, take}
use Rattle.range_tuple.specs.KeptColumns.{ReadsAgain}
use Rattle.range_tuple.specs.Tuples.{IsColumn}
use Rattle.range_tuple.proofs.columns.known.Given as goal

abbrev pub invariant-columns : goal.invariant-columns
invariant-columns l = record {
  columns : All IsColumn (take l.column-index l.columns);
  classes : All ReadsAgain (take l.column-index l.columns);
}
