use Rattle.range_tuple.proofs.Classes.{sizes, within_limits}
use Rattle.range_tuple.proofs.soundness.lawful_classes_are_within_limits.Goals as goal

pub returns : goal.returns
returns c = record { limits = within_limits; size = sizes }
