use Rattle.std.proofs.Common.{length}
use Rattle.range_tuple.specs.Tuples.{parts_of}
use Rattle.range_tuple.proofs.ReadingColumns.{AreRead}
use Rattle.range_tuple.proofs.columns.read_each.Given as goal

abbrev pub invariant-columns : goal.invariant-columns
invariant-columns l = AreRead (parts_of l.fn.spare) l.bytes (length l.fn.spare) l.i l.at l.spare
