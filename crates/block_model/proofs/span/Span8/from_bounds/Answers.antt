use Rattle.block_model.proofs.BoundsNumbers.{numbers_between}
use Rattle.block_model.proofs.span.Span8.from_bounds.Goals as goal

pub returns-in-Some-Some-clause-numbers : goal.returns-in-Some-Some-clause-numbers
returns-in-Some-Some-clause-numbers c =
    rw (c.between.ensures, c.in-Some-Some.is-0, c.in-Some-Some.is-1) (numbers_between c.in-Some-Some.l c.in-Some-Some.h)
