use Rattle.coverage.proofs.RefusalsCause.{lacks_memory, heap_full, index_full, full_exactly, refused_ends}
use Rattle.coverage.proofs.table_laws.refusals_have_their_cause.Goals as goal

pub returns : goal.returns
returns c = record {
  memory = λ s w v does is. lacks_memory s w v does is;
  heap_full = λ s w v does number is. heap_full s w v does number is;
  index_full = λ s w v does at number is. index_full s w v does at number is;
  no_place = λ w. full_exactly w;
  ends = λ s w v does busy rests. refused_ends s w v busy rests does;
}
