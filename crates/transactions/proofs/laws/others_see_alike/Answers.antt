use Rattle.transactions.proofs.Others.{begin_unseen, differ, end_unseen, mark_unseen, no_delete_done, put_unseen, unfinished}
use Rattle.transactions.proofs.laws.others_see_alike.Goals as goal

pub returns-clause-begun : goal.returns-clause-begun
returns-clause-begun c = begin_unseen

pub returns-clause-ended : goal.returns-clause-ended
returns-clause-ended c = λ layout pages t s stored session other u o p end shows was was_p apart ended. end_unseen shows session other o p was was_p apart stored u end ended

pub returns-clause-apart : goal.returns-clause-apart
returns-clause-apart c = λ layout pages t s session other o p shows was was_p apart. (differ shows session other o p was was_p apart, unfinished shows session other o p was was_p apart)

pub returns-clause-marked : goal.returns-clause-marked
returns-clause-marked c = λ layout pages t s stored session other table o p spot row shows has was was_p apart below stands free. mark_unseen shows session other o p was was_p apart stored row has free

pub returns-clause-put : goal.returns-clause-put
returns-clause-put c = λ layout pages t s stored session other o p row shows was was_p apart own. put_unseen shows session other o p was was_p apart stored row own

pub returns-clause-unmarked : goal.returns-clause-unmarked
returns-clause-unmarked c = λ layout pages t s stored session other table o p spot row shows has was was_p apart below stands free. no_delete_done shows session other o p was was_p apart stored table spot row has below stands free
