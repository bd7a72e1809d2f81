use Rattle.std.proofs.Common.{◌≡◌, true, take}
use Rattle.std.specs.List.{list_all}
use Rattle.range_tuple.specs.Keeps.{column_allows}
use Rattle.range_tuple.proofs.columns.all_read_allow.Given as goal

abbrev pub invariant-columns : goal.invariant-columns
invariant-columns l = list_all (column_allows l.conds) (take l.column-index l.spare) ≡ true
