use Rattle.transcripts.proofs.Lines.{next_is_said, none_twice, others_stay}
use Rattle.transcripts.proofs.entries_are_of_lines.Goals as goal

pub returns-clause-others : goal.returns-clause-others
returns-clause-others c = others_stay

pub returns-clause-next : goal.returns-clause-next
returns-clause-next c = next_is_said

pub returns-clause-once : goal.returns-clause-once
returns-clause-once c = none_twice
