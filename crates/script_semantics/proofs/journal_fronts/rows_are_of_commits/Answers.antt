use Rattle.script_semantics.proofs.Commits.{rows_are_of_commits}
use Rattle.script_semantics.proofs.journal_fronts.rows_are_of_commits.Goals as goal

pub returns : goal.returns
returns c = rows_are_of_commits
