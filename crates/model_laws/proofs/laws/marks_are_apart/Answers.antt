use Rattle.model_laws.proofs.Removals.{marks_are_apart}
use Rattle.model_laws.proofs.laws.marks_are_apart.Goals as goal

pub returns : goal.returns
returns c = marks_are_apart
