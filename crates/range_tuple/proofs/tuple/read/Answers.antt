use Rattle.std.proofs.Common.{◌≡◌, ℕ, Ok, List, refl, sym, ap, ◌∙◌, arith}
use Rattle.range_tuple.specs.TupleBytes.{tuple_bytes}
use Rattle.range_tuple.specs.TupleReading.{read_of}
use Rattle.opclass_any.specs.declared.classes.AnyClass.{AnyClass}
use Rattle.range_tuple.proofs.ByPlace.{heads_fit, length-parts}
use Rattle.range_tuple.proofs.TupleRead.{read_back}
use Rattle.range_tuple.proofs.tuple.read.Goals as goal

pub read_columns-requires-clause-few : goal.read_columns-requires-clause-few
read_columns-requires-clause-few c = omega (arith, length-parts c.args.spare.now c.args.tuple.now.columns c.requires, c.known.ensures.fits, heads_fit c.args.tuple.now.columns)

pub read_columns-requires-clause-some : goal.read_columns-requires-clause-some
read_columns-requires-clause-some c = omega (arith, length-parts c.args.spare.now c.args.tuple.now.columns c.requires, c.known.ensures.some)

pub returns-in-Ok-clause-found : goal.returns-in-Ok-clause-found
returns-in-Ok-clause-found c = c.in-Ok.ensures.found ∙ ap tuple_bytes (sym c.exchange.ensures.taken)

pub returns-in-Ok-clause-read : goal.returns-in-Ok-clause-read
returns-in-Ok-clause-read c = ap (λ (parts : List (ℕ × AnyClass)). read_of parts c.args.bytes.now) (sym c.requires) ∙ c.in-Ok.ensures.read ∙ ap Ok (sym c.exchange.ensures.taken)

pub returns-in-Err-clause-read : goal.returns-in-Err-clause-read
returns-in-Err-clause-read c = ap (λ (parts : List (ℕ × AnyClass)). read_of parts c.args.bytes.now) (sym c.requires) ∙ c.in-Err.ensures.read

pub returns-in-Ok-clause-again : goal.returns-in-Ok-clause-again
returns-in-Ok-clause-again c = λ t lawful parts is.
    let new = returns-in-Ok-clause-read c in
    let right = read_back c.args.tuple.now t c.args.bytes.now c.known_classes.ensures lawful parts is in
    let same : c.exchange.new.self ≡ t = cc in
    (refl, same)

pub returns-in-Err-clause-again : goal.returns-in-Err-clause-again
returns-in-Err-clause-again c = λ t lawful parts is.
    let wrong = returns-in-Err-clause-read c in
    let right = read_back c.args.tuple.now t c.args.bytes.now c.known_classes.ensures lawful parts is in
    absurd cc
