use Rattle.range_tuple.proofs.Classes.{sound}
use Rattle.range_tuple.proofs.soundness.classes_are_sound.Goals as goal

pub returns : goal.returns
returns c = sound
