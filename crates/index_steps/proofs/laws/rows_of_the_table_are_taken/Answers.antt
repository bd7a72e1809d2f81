use Rattle.index_steps.proofs.Taken.{takes_values}
use Rattle.index_steps.proofs.laws.rows_of_the_table_are_taken.Goals as goal

pub returns : goal.returns
returns c = λ shape values within lawful is. takes_values c.values_of_a_kind_are_taken.ensures shape values within lawful is
