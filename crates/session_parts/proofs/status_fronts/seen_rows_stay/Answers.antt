use Rattle.session_parts.proofs.SeenBefore.{saw_rows_at_begin, saw_rows_at_end, saw_rows_stay}
use Rattle.session_parts.proofs.status_fronts.seen_rows_stay.Goals as goal

pub returns-clause-marked : goal.returns-clause-marked
returns-clause-marked c = saw_rows_stay

pub returns-clause-begun : goal.returns-clause-begun
returns-clause-begun c = saw_rows_at_begin

pub returns-clause-ended : goal.returns-clause-ended
returns-clause-ended c = saw_rows_at_end
