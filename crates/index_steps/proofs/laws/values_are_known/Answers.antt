use Rattle.std.proofs.lemmas.List.{take_all}
use Rattle.std.proofs.lemmas.List.Elements.{All-same}
use Rattle.std.proofs.Common.{arith, sym}
use Rattle.index_steps.proofs.KnownValues.{IsMade, values_are}
use Rattle.index_steps.proofs.laws.values_are_known.Goals as goal

pub returns : goal.returns
returns c = λ kinds have. values_are kinds c.args.values.now (All-same IsMade c.args.values.now _ (sym (take_all c.values.value-index c.args.values.now (omega arith))) c.values.invariant) have
