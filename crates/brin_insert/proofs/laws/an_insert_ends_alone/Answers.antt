use Rattle.brin_insert.proofs.Calls.{calls_end}
use Rattle.brin_insert.proofs.laws.an_insert_ends_alone.Goals as goal

pub returns : goal.returns
returns c = λ s calls shown task u run at kept. calls_end c.table_stays_covered.ensures.kept s c.statements_go_on.ensures.begun_insert_ends calls shown task u run at kept
