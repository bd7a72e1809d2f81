use Rattle.std.proofs.Common.{◌≡◌, map, take}
use Rattle.range_tuple.specs.Tuples.{emptied}
use Rattle.range_tuple.proofs.columns.new_spare.Given as goal

abbrev pub invariant-columns : goal.invariant-columns
invariant-columns l = l.spare.items ≡ map emptied (take l.column-index l.columns)
