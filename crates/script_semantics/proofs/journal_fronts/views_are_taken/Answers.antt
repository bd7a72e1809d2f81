use Rattle.script_semantics.proofs.Fronts.{views_are_taken}
use Rattle.script_semantics.proofs.journal_fronts.views_are_taken.Goals as goal

pub returns : goal.returns
returns c = views_are_taken
