use Rattle.session_starts.proofs.Fits.{opened_fit}
use Rattle.session_starts.proofs.opening_laws.opened_parts_fit.Goals as goal

pub returns : goal.returns
returns g c = opened_fit g.D.Disk.told
