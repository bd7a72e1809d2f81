use Rattle.opclass_minmax.proofs.Reading.{widened_has_bytes}
use Rattle.opclass_minmax.proofs.class.MinMaxOpClass.add.Goals as goal

pub returns-in-Int-clause-has_bytes : goal.returns-in-Int-clause-has_bytes
returns-in-Int-clause-has_bytes c = rw c.widen.ensures.widened (widened_has_bytes c.args.s.now _ _)
