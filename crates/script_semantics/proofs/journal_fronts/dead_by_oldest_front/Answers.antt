use Rattle.script_semantics.proofs.Oldest.{dead_by_oldest_front}
use Rattle.script_semantics.proofs.journal_fronts.dead_by_oldest_front.Goals as goal

pub returns : goal.returns
returns c = dead_by_oldest_front
