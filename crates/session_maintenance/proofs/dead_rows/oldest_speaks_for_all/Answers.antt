use Rattle.session_maintenance.proofs.Dead.{oldest_for_all}
use Rattle.session_maintenance.proofs.dead_rows.oldest_speaks_for_all.Goals as goal

pub returns : goal.returns
returns c = oldest_for_all c.numbers_rise.ensures
