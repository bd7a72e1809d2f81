use Rattle.std.proofs.Common.{All, List, take}
use Rattle.block_model.specs.declared.value.Value.{Value}
use Rattle.range_tuple.specs.TupleIncludes.{ColumnIncludes}
use Rattle.range_tuple.specs.Tuples.{united_columns}
use Rattle.range_tuple.proofs.InPlace.{Follows}
use Rattle.range_tuple.proofs.columns.unite_each.Given as goal

abbrev pub invariant-columns : goal.invariant-columns
invariant-columns l = record {
  follows : Follows (united_columns l.fn.columns l.others) l.fn.columns l.columns l.at l.changed;
  kept : (row : List Value) → All (ColumnIncludes row) (take l.at l.fn.columns) → All (ColumnIncludes row) (take l.at (united_columns l.fn.columns l.others));
  taken : (row : List Value) → All (ColumnIncludes row) (take l.at l.others) → All (ColumnIncludes row) (take l.at (united_columns l.fn.columns l.others));
}
