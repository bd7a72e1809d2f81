use Rattle.transcript_laws.proofs.Stepping.{steps_told}
use Rattle.transcript_laws.proofs.steps_are_told.Goals as goal

pub returns : goal.returns
returns c = steps_told
