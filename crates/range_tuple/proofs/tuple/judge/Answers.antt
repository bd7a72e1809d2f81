use Rattle.std.proofs.Common.{ℕ, List, sym, ap, ◌∙◌, arith}
use Rattle.range_tuple.specs.TupleReading.{read_of}
use Rattle.range_tuple.specs.Tuples.{tuple_of}
use Rattle.opclass_any.specs.declared.classes.AnyClass.{AnyClass}
use Rattle.range_tuple.proofs.ByPlace.{heads_fit, length-parts}
use Rattle.range_tuple.proofs.tuple.judge.Goals as goal

pub read_columns-requires-clause-few : goal.read_columns-requires-clause-few
read_columns-requires-clause-few c = omega (arith, length-parts c.args.spare.now c.args.tuple.now.columns c.requires.index, c.known_columns.ensures.fits, heads_fit c.args.tuple.now.columns)

pub read_columns-requires-clause-some : goal.read_columns-requires-clause-some
read_columns-requires-clause-some c = omega (arith, length-parts c.args.spare.now c.args.tuple.now.columns c.requires.index, c.known_columns.ensures.some)

pub keep-requires-clause-some : goal.keep-requires-clause-some
keep-requires-clause-some c = omega (arith, length-parts c.read_columns.new.spare c.args.spare.now c.read_columns.ensures.same_index, length-parts c.args.spare.now c.args.tuple.now.columns c.requires.index, c.known_columns.ensures.some)

pub returns-in-Ok-clause-judged : goal.returns-in-Ok-clause-judged
returns-in-Ok-clause-judged c = record {
  tuple = tuple_of c.in-Ok.head.range c.in-Ok.head.placeholder c.read_columns.new.spare;
  spelt = c.in-Ok.ensures.found;
  read = ap (λ (parts : List (ℕ × AnyClass)). read_of parts c.args.bytes.now) (sym c.requires.index) ∙ c.in-Ok.ensures.read;
  answer = c.keep.ensures.answer c.in-Ok.head.range;
  misses_no_match = c.keep.ensures.misses_no_match;
}

pub returns-in-Err-clause-refused : goal.returns-in-Err-clause-refused
returns-in-Err-clause-refused c = ap (λ (parts : List (ℕ × AnyClass)). read_of parts c.args.bytes.now) (sym c.requires.index) ∙ c.in-Err.ensures.read
