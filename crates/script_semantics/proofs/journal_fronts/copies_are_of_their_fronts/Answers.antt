use Rattle.script_semantics.proofs.Copies.{copies_are_of_their_fronts}
use Rattle.script_semantics.proofs.journal_fronts.copies_are_of_their_fronts.Goals as goal

pub returns : goal.returns
returns c = copies_are_of_their_fronts
