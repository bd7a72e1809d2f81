use Rattle.coverage.proofs.StepsExist.{insert_has_step, desummarise_has_step}
use Rattle.coverage.proofs.SummariseExists.{summarise_has_step}
use Rattle.coverage.proofs.InsertsEnd.{insert_bound, begun_bound}
use Rattle.coverage.proofs.index_laws.some_step_comes.Goals as goal

pub returns : goal.returns
returns c = record {
  insert_ends = λ w s b k n r on_index named alone. insert_bound s b k r n w on_index named alone;
  insert_ends_begun = λ w s b k n r named alone. begun_bound s b k r n w named alone;
  insert = λ w slots s b k r on_index known stuck others. insert_has_step s b k r w slots on_index known stuck others;
  summarise = λ w slots blocks s range phase its known pages stuck free. summarise_has_step s range w slots blocks its phase known pages stuck free;
  desummarise = λ w s range on_index known stuck free. desummarise_has_step s range w on_index known stuck free;
}
