use Rattle.snapshot_core.proofs.Fresh.{any_deleter}
use Rattle.snapshot_core.proofs.laws.a_row_at_rest_may_have_any_deleter.Goals as goal

pub returns : goal.returns
returns c = any_deleter
