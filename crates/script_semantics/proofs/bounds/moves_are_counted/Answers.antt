use Rattle.script_semantics.specs.Moves.{StillThere}
use Rattle.script_semantics.proofs.Moving.{one_behind, uncounted}
use Rattle.script_semantics.proofs.bounds.moves_are_counted.Goals as goal

pub returns : goal.returns
returns c = record {
  moved = λ p q n steps moved. uncounted n steps p q moved;
  none = λ p n. StillThere p;
  further = λ p q r n steps point moved step. one_behind n steps p q r point moved step;
}
