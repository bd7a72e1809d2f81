use Rattle.std.proofs.Common.{refl}
use Rattle.range_tuple.specs.TupleBytes.{tuple_bytes}
use Rattle.range_tuple.proofs.WholeTuples.{has_fields}
use Rattle.range_tuple.proofs.laws.bytes_begin_with_the_range.Goals as goal

pub returns : goal.returns
returns c = λ t lawful. (has_fields t (tuple_bytes t) lawful.range_fits refl).range_there
