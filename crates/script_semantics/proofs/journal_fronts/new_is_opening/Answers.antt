use Rattle.script_semantics.proofs.Openings.{new_is_opening}
use Rattle.script_semantics.proofs.journal_fronts.new_is_opening.Goals as goal

pub returns : goal.returns
returns c = new_is_opening
