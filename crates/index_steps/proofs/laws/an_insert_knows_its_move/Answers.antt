use Rattle.index_steps.proofs.Damage.{knows_move}
use Rattle.index_steps.proofs.laws.an_insert_knows_its_move.Goals as goal

pub returns : goal.returns
returns c = λ shape e lock w s b k r x y old new shows kept is. knows_move shape e lock w s b k r x y old new shows kept is
