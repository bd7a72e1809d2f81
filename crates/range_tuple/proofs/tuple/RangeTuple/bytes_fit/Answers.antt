use Rattle.std.proofs.Common.{All, subst}
use Rattle.range_tuple.specs.KeptColumns.{ReadsAgain}
use Rattle.range_tuple.specs.Tuples.{Tuple}
use Rattle.range_tuple.proofs.TupleRead.{reads_by_parts, tuple_fits}
use Rattle.range_tuple.proofs.tuple.RangeTuple.bytes_fit.Goals as goal

pub returns : goal.returns
returns c = λ t lawful parts. tuple_fits t lawful (reads_by_parts t.columns c.args.self.now.columns parts (subst (λ (u : Tuple). All ReadsAgain u.columns) c.self.view_is c.known_classes.ensures))
