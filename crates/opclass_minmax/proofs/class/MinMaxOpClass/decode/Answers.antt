use Rattle.std.proofs.Common.{refl}
use Rattle.opclass_minmax.proofs.Reading.{one_meaning}
use Rattle.opclass_minmax.proofs.class.MinMaxOpClass.decode.Goals as goal

pub returns-clause-again : goal.returns-clause-again
returns-clause-again c = λ s lawful is. (refl, one_meaning c.in_ok-into.field-0 s c.args.bytes.now c.in_ok-into.ensures.found.0 lawful c.in_ok-into.ensures.found.1 is)
