use Rattle.std.proofs.Common.{All, take}
use Rattle.index_steps.proofs.KnownValues.{IsMade}
use Rattle.index_steps.proofs.laws.values_are_known.Given as goal

abbrev pub invariant-values : goal.invariant-values
invariant-values l = All IsMade (take l.value-index l.values)
