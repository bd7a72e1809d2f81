use Rattle.coverage.proofs.Settled.{settled_accounted, accounted_settled}
use Rattle.coverage.proofs.index_laws.settled_is_accounted.Goals as goal

pub returns : goal.returns
returns c = record {
  accounted = λ w b r sound settled. settled_accounted w sound b r settled;
  settled = λ w b r sound accounted. accounted_settled w sound b r accounted;
}
