use Rattle.std.proofs.Common.{◌≡◌, None}
use Rattle.range_tuple.specs.TupleFaults.{first, length_is_wrong}
use Rattle.range_tuple.proofs.head.wrong_length.Given as goal

abbrev pub invariant-lengths : goal.invariant-lengths
invariant-lengths l = first (length_is_wrong l.count l.bytes) l.k ≡ None
