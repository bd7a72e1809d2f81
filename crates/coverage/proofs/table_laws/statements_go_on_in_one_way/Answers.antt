use Rattle.coverage.proofs.Onward.{onward_once, onward_or_done, table_step_lands}
use Rattle.coverage.proofs.TableOnePoint.{table_one_next}
use Rattle.coverage.proofs.table_laws.statements_go_on_in_one_way.Goals as goal

pub returns : goal.returns
returns c = record {
  one_way = λ w old p q one two. onward_once w old p q one two;
  or_reply = λ w old q done onward. onward_or_done w old q done onward;
  at_a_step = table_step_lands;
  one_point = λ s w v u p q busy one two is other. (table_one_next s w v u p q busy one two is other).0;
  one_outcome = λ s w v u p q busy one two is other. (table_one_next s w v u p q busy one two is other).1;
}
