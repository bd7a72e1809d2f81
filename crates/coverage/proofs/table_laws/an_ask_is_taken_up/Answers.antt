use Rattle.std.specs.Prelude.{refl}
use Rattle.coverage.proofs.AskRun.{begun, asked_for, taken_up, empty_queue, one_asked, begun_kept, ask_run, work_run}
use Rattle.coverage.proofs.table_laws.an_ask_is_taken_up.Goals as goal

pub returns : goal.returns
returns c = λ r q. (
  begun r q,
  asked_for r q,
  taken_up r q,
  empty_queue,
  one_asked,
  empty_queue,
  begun_kept r q,
  ask_run r q,
  work_run r q,
  refl,
  refl,
  refl,
  refl,
  refl,
  refl,
)
