use Rattle.std.proofs.Common.{drop, take, sym, ap, ◌∙◌, arith}
use Rattle.std.proofs.lemmas.List.{take_at}
use Rattle.range_tuple.specs.TupleBytes.{tuple_bytes}
use Rattle.index_steps.proofs.Sizes.{some_bytes}
use Rattle.index_steps.proofs.spelling.spell.Goals as goal

pub returns-clause-bytes : goal.returns-clause-bytes
returns-clause-bytes c = ap (take c.encode.result) c.encode.ensures.written ∙ take_at (tuple_bytes c.args.tuple.now) (drop c.encode.result c.args.room.now) c.encode.result (sym c.encode.ensures.size)

pub returns-clause-size : goal.returns-clause-size
returns-clause-size c = (some_bytes c.args.tuple.now, omega (arith, c.encode.ensures.size, c.encode.ensures.within, c.known.ensures.fits))
