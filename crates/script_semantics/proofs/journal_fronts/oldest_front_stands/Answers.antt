use Rattle.script_semantics.proofs.Oldest.{oldest_front_stands}
use Rattle.script_semantics.proofs.journal_fronts.oldest_front_stands.Goals as goal

pub returns : goal.returns
returns c = oldest_front_stands
