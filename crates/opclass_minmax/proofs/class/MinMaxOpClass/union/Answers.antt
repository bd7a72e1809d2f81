use Rattle.opclass_minmax.proofs.Reading.{widened_has_bytes}
use Rattle.opclass_minmax.proofs.class.MinMaxOpClass.union.Goals as goal

pub returns-in-Some-clause-has_bytes : goal.returns-in-Some-clause-has_bytes
returns-in-Some-clause-has_bytes c = λ some. rw c.widen.ensures.widened (widened_has_bytes c.args.s.now _ _)
