use Rattle.model_laws.proofs.CommitLaws.{failed_commit_changes_nothing}
use Rattle.model_laws.proofs.laws.failed_commit_changes_nothing.Goals as goal

pub returns : goal.returns
returns c = failed_commit_changes_nothing
