use Rattle.std.proofs.Common.{◌≡◌, ◌++◌, map, take, drop}
use Rattle.range_tuple.specs.Tuples.{emptied}
use Rattle.range_tuple.proofs.columns.empty_out_each.Given as goal

abbrev pub invariant-columns : goal.invariant-columns
invariant-columns l = l.columns ≡ take l.i (map emptied l.fn.columns) ++ drop l.i l.fn.columns
