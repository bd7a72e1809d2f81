use Rattle.brin_insert.proofs.Numbers.{rows_taken}
use Rattle.brin_insert.proofs.insert.rows_are_taken.Goals as goal

pub returns : goal.returns
returns c = λ at n is. rows_taken c.rows_of_the_table_are_taken.ensures c.args.layout.now c.known.ensures.limits c.args.row.now.table c.requires.table c.args.row.now.values c.requires.kinds at n is
