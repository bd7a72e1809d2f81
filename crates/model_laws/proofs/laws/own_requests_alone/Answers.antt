use Rattle.model_laws.proofs.OwnRuns.{own_requests_alone}
use Rattle.model_laws.proofs.laws.own_requests_alone.Goals as goal

pub returns : goal.returns
returns c = own_requests_alone
