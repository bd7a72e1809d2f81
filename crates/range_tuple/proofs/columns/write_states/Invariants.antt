use Rattle.std.proofs.Common.{◌≡◌, take}
use Rattle.range_tuple.specs.TupleBytes.{states_bytes}
use Rattle.range_tuple.proofs.columns.write_states.Given as goal

abbrev pub invariant-columns : goal.invariant-columns
invariant-columns l = take l.i l.out ≡ states_bytes (take l.i l.columns)
