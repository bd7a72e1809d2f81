use Rattle.session_parts.proofs.Stores.{others_stay_fit}
use Rattle.session_parts.proofs.laws_stores.other_sessions_stay_fit.Goals as goal

pub returns : goal.returns
returns g c = others_stay_fit g.D.Disk.told
