use Rattle.summary_directory.proofs.Given.{left_out, left_out_by}
use Rattle.summary_directory.proofs.laws.a_block_is_left_out_by_a_tuple.Goals as goal

pub returns-clause-by : goal.returns-clause-by
returns-clause-by c = λ layout shown query block out. left_out_by layout shown query block out

pub returns-clause-out : goal.returns-clause-out
returns-clause-out c = λ layout shown query at block out. left_out layout shown query at block out
