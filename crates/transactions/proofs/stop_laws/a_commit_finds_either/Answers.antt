use Rattle.transactions.proofs.Commits.{commit_finds_either, failed_commit_finds_old}
use Rattle.transactions.proofs.stop_laws.a_commit_finds_either.Goals as goal

pub returns-clause-unfailed : goal.returns-clause-unfailed
returns-clause-unfailed c = commit_finds_either

pub returns-clause-failed : goal.returns-clause-failed
returns-clause-failed c = failed_commit_finds_old
