use Rattle.script_semantics.proofs.Commits.{commits_stand}
use Rattle.script_semantics.proofs.journal_fronts.commits_stand.Goals as goal

pub returns : goal.returns
returns c = commits_stand
