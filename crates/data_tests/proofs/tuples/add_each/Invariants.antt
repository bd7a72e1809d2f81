use Rattle.std.proofs.Common.{◌≡◌}
use Rattle.data_tests.specs.FiveColumns.{five_parts}
use Rattle.range_tuple.specs.Tuples.{parts_of}
use Rattle.data_tests.proofs.tuples.add_each.Given as goal

abbrev pub invariant-numbers : goal.invariant-numbers
invariant-numbers l = parts_of l.tuple.columns ≡ five_parts
