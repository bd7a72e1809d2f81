use Rattle.std.proofs.Common.{All, refl, ap, subst}
use Rattle.range_tuple.specs.KeptColumns.{ReadsAgain}
use Rattle.range_tuple.specs.TupleBytes.{tuple_bytes}
use Rattle.range_tuple.specs.TupleReading.{is_there}
use Rattle.range_tuple.specs.Tuples.{Tuple}
use Rattle.range_tuple.proofs.TupleRead.{read_back}
use Rattle.range_tuple.proofs.tuple.RangeTuple.one_tuple.Goals as goal

pub returns-clause-read : goal.returns-clause-read
returns-clause-read c = λ t lawful parts. ap is_there (read_back c.args.self.now t (tuple_bytes t) (subst (λ (u : Tuple). All ReadsAgain u.columns) c.self.view_is c.known_classes.ensures) lawful parts refl)

pub returns-clause-one : goal.returns-clause-one
returns-clause-one c = λ t u lawful other parts part same.
    let first = read_back c.args.self.now t (tuple_bytes t) (subst (λ (u : Tuple). All ReadsAgain u.columns) c.self.view_is c.known_classes.ensures) lawful parts refl in
    let second = read_back c.args.self.now u (tuple_bytes t) (subst (λ (u : Tuple). All ReadsAgain u.columns) c.self.view_is c.known_classes.ensures) other part same in
    cc
