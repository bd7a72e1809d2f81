use Rattle.coverage.proofs.NextSteps.{insert_one_point, summarise_one_point, desummarise_one_point, insert_blocked, summarise_blocked, desummarise_blocked}
use Rattle.coverage.proofs.OneOutcome.{insert_one_outcome, summarise_one_outcome, desummarise_one_outcome}
use Rattle.coverage.proofs.FullApart.{insert_full, summarise_full}
use Rattle.coverage.proofs.index_laws.each_step_is_the_next_one.Goals as goal

pub returns : goal.returns
returns c = record {
  insert = insert_one_point;
  summarise = summarise_one_point;
  desummarise = desummarise_one_point;
  insert_outcome = insert_one_outcome;
  summarise_outcome = summarise_one_outcome;
  desummarise_outcome = desummarise_one_outcome;
  insert_blocked = insert_blocked;
  insert_full = insert_full;
  summarise_full = summarise_full;
  summarise_blocked = λ s range p w v phase e waits step. summarise_blocked s range w v p phase e waits step;
  desummarise_blocked = desummarise_blocked;
}
