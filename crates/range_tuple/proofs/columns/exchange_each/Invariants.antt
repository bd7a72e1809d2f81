use Rattle.std.proofs.Common.{◌≡◌, ◌++◌, take, drop}
use Rattle.range_tuple.proofs.columns.exchange_each.Given as goal

abbrev pub invariant-columns : goal.invariant-columns
invariant-columns l = record {
  taken : l.columns ≡ take l.i l.fn.spare ++ drop l.i l.fn.columns;
  given : l.spare ≡ take l.i l.fn.columns ++ drop l.i l.fn.spare;
}
