use Rattle.coverage.proofs.Opening.{rest_kept, new_kept, stopped_kept}
use Rattle.coverage.proofs.index_laws.opened_index_is_kept.Goals as goal

pub returns : goal.returns
returns c = record {
  opened = λ w covered rest ranged below ordered lawful. rest_kept w covered rest ranged below ordered lawful;
  new = new_kept;
  stopped = stopped_kept;
}
