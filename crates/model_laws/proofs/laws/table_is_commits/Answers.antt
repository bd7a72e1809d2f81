use Rattle.model_laws.proofs.CommitLaws.{table_is_commits}
use Rattle.model_laws.proofs.laws.table_is_commits.Goals as goal

pub returns : goal.returns
returns c = table_is_commits
