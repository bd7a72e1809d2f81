use Rattle.transcripts.proofs.Worked.{worked_is_right}
use Rattle.transcripts.proofs.worked_texts_are_right.Goals as goal

pub returns : goal.returns
returns c = worked_is_right
