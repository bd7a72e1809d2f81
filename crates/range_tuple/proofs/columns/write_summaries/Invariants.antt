use Rattle.std.proofs.Common.{◌≡◌, ◌≤◌, ◌+◌, ◌*◌, ◌++◌, length, sum_by, take, drop}
use Rattle.range_tuple.specs.TupleBytes.{lengths_bytes, summaries_bytes}
use Rattle.range_tuple.specs.Tuples.{column_room}
use Rattle.range_tuple.proofs.columns.write_summaries.Given as goal

abbrev pub invariant-columns : goal.invariant-columns
invariant-columns l = record {
  place : l.at ≡ length (summaries_bytes (take l.i l.columns));
  within : 3 * l.i + l.at ≤ sum_by column_room (take l.i l.columns);
  lengths : take (2 * l.i) l.lengths ≡ lengths_bytes (take l.i l.columns);
  so_far : l.summaries ≡ summaries_bytes (take l.i l.columns) ++ drop l.at l.fn.summaries;
}
