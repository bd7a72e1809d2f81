use Rattle.std.proofs.Common.{◌≡◌, ◌+◌, ◌++◌, length, take}
use Rattle.range_tuple.specs.Keeps.{comparisons}
use Rattle.range_tuple.proofs.scan_keys.write_comparisons.Given as goal

abbrev pub invariant-conds : goal.invariant-conds
invariant-conds l = record {
  place : l.end ≡ l.first + length (comparisons l.place (take l.cond-index l.conds));
  so_far : take l.end l.out ≡ take l.first l.fn.out ++ comparisons l.place (take l.cond-index l.conds);
}
