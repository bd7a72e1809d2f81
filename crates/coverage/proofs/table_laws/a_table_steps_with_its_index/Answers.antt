use Rattle.coverage.proofs.OneIndexSteps.{index_here, index_other, task_here, task_other, stays_at, goes_on_insert, completes_insert, goes_on_maintain}
use Rattle.coverage.proofs.OneIndexSteps.{completes_maintain, sweeps_one}
use Rattle.coverage.proofs.table_laws.a_table_steps_with_its_index.Goals as goal

pub returns : goal.returns
returns c = record {
  here = index_here;
  others = index_other;
  turned = task_here;
  other_tasks = task_other;
  insert_goes = goes_on_insert;
  insert_completes = completes_insert;
  maintain_goes = goes_on_maintain;
  maintain_completes = completes_maintain;
  sweeps = sweeps_one;
  stays = stays_at;
}
