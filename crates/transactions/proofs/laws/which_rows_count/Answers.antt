use Rattle.transactions.proofs.Counts.{begin_counts, commit_counts, failure_counts, put_counts, rollback_counts, seen_counts}
use Rattle.transactions.proofs.laws.which_rows_count.Goals as goal

pub returns-clause-seen : goal.returns-clause-seen
returns-clause-seen c = seen_counts

pub returns-clause-begun : goal.returns-clause-begun
returns-clause-begun c = begin_counts

pub returns-clause-committed : goal.returns-clause-committed
returns-clause-committed c = λ layout pages t s stored session u o shows has was. commit_counts shows session o was stored has u

pub returns-clause-rolled_back : goal.returns-clause-rolled_back
returns-clause-rolled_back c = λ layout pages t s stored session u o shows has was. rollback_counts shows session o was stored has u

pub returns-clause-failed : goal.returns-clause-failed
returns-clause-failed c = λ layout pages t s stored session u o shows has was. failure_counts shows session o was stored has u

pub returns-clause-put : goal.returns-clause-put
returns-clause-put c = put_counts
