use Rattle.range_tuple.proofs.Exactness.{exact_tuple}
use Rattle.range_tuple.proofs.laws.rows_leave_exact_summaries.Goals as goal

pub returns : goal.returns
returns c = exact_tuple
