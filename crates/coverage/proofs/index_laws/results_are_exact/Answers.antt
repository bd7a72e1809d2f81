use Rattle.coverage.proofs.ExactResults.{exact_on, exact_after, exact_final}
use Rattle.coverage.proofs.index_laws.results_are_exact.Goals as goal

pub returns : goal.returns
returns c = record {
  steps = λ s range w v old new step is. exact_after s range w v old new step is;
  stays = λ w v range phase heap contents is. exact_on w v heap contents range phase is;
  named = λ w v s range old new step kept was is one. exact_final s range w v kept old new step was is one;
}
