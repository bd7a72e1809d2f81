use Rattle.std.proofs.Common.{All, List, map, take}
use Rattle.block_model.specs.declared.value.Value.{Value}
use Rattle.range_tuple.specs.TupleIncludes.{ColumnIncludes}
use Rattle.range_tuple.specs.Tuples.{with_row_at}
use Rattle.range_tuple.proofs.InPlace.{Follows}
use Rattle.range_tuple.proofs.columns.add_to_each.Given as goal

abbrev pub invariant-columns : goal.invariant-columns
invariant-columns l = record {
  follows : Follows (map (with_row_at l.values) l.fn.columns) l.fn.columns l.columns l.at l.changed;
  included : All (ColumnIncludes l.values) (take l.at (map (with_row_at l.values) l.fn.columns));
  kept : (row : List Value) → All (ColumnIncludes row) (take l.at l.fn.columns) → All (ColumnIncludes row) (take l.at (map (with_row_at l.values) l.fn.columns));
}
