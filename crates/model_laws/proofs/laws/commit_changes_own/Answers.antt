use Rattle.model_laws.proofs.CommitLaws.{commit_changes_own}
use Rattle.model_laws.proofs.laws.commit_changes_own.Goals as goal

pub returns : goal.returns
returns c = commit_changes_own
