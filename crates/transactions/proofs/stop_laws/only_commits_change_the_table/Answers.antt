use Rattle.transactions.proofs.Commits.{only_commits_change, other_requests_leave}
use Rattle.transactions.proofs.stop_laws.only_commits_change_the_table.Goals as goal

pub returns-clause-effect : goal.returns-clause-effect
returns-clause-effect c = only_commits_change

pub returns-clause-found : goal.returns-clause-found
returns-clause-found c = other_requests_leave
