use Rattle.std.proofs.Common.{take}
use Rattle.std.specs.List.{list_all}
use Rattle.kept_tuples.specs.Wanted.{WantedWhere, allows_on}
use Rattle.kept_tuples.proofs.wanted.Wanted.of.Given as goal

abbrev pub invariant-conds : goal.invariant-conds
invariant-conds l = WantedWhere l.wanted (λ nulls least greatest. list_all (allows_on l.place nulls least greatest) (take l.cond-index l.conds))
