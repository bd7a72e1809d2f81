use Rattle.std.proofs.Common.{refl}
use Rattle.script_semantics.proofs.Moving.{few_moves}
use Rattle.script_semantics.proofs.bounds.a_finished_statement_ends.Goals as goal

pub returns : goal.returns
returns c = λ p q n steps hand in_hand within moved. few_moves n hand.statement p (hand, in_hand, refl) within steps q moved
