use Rattle.opclass_minmax.proofs.Asking.{misses_none}
use Rattle.opclass_minmax.proofs.laws.a_summary_misses_no_match.Goals as goal

pub returns : goal.returns
returns c = misses_none
