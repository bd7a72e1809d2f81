use Rattle.std.proofs.Common.{◌≡◌, sum_by, take}
use Rattle.range_tuple.specs.Tuples.{column_room}
use Rattle.range_tuple.proofs.columns.room_of.Given as goal

abbrev pub invariant-columns : goal.invariant-columns
invariant-columns l = l.room ≡ sum_by column_room (take l.column-index l.columns)
