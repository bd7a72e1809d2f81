use Rattle.range_tuple.proofs.Asking.{excludes_of}
use Rattle.range_tuple.proofs.soundness.a_tuple_excludes_what_it_does_not_keep.Goals as goal

pub returns : goal.returns
returns c = excludes_of
