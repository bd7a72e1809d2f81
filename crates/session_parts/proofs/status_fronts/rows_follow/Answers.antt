use Rattle.session_parts.proofs.Following.{drop_follows, mark_follows, put_follows, same_heaps_follow}
use Rattle.session_parts.proofs.status_fronts.rows_follow.Goals as goal

pub returns-clause-alike : goal.returns-clause-alike
returns-clause-alike c = same_heaps_follow

pub returns-clause-put : goal.returns-clause-put
returns-clause-put c = put_follows

pub returns-clause-marked : goal.returns-clause-marked
returns-clause-marked c = mark_follows

pub returns-clause-dropped : goal.returns-clause-dropped
returns-clause-dropped c = drop_follows
