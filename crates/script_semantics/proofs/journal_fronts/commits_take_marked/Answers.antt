use Rattle.script_semantics.proofs.Taken.{commits_take_marked}
use Rattle.script_semantics.proofs.journal_fronts.commits_take_marked.Goals as goal

pub returns : goal.returns
returns c = commits_take_marked
