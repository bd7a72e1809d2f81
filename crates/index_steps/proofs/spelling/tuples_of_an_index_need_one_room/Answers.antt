use Rattle.index_steps.proofs.Sizes.{same_room}
use Rattle.index_steps.proofs.spelling.tuples_of_an_index_need_one_room.Goals as goal

pub returns : goal.returns
returns c = λ xs ys same. same_room xs ys same
