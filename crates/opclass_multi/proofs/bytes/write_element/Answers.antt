use Rattle.std.proofs.Common.{rules, ◌≡◌, true, false, FitsSigned, arith}
use Rattle.std.specs.Prelude.{int_lt}
use Rattle.std.specs.Int.{w64}
use Rattle.std.proofs.lemmas.Int.{ints}
use Rattle.opclass_multi.specs.declared.element.Element.{Element}
use Rattle.opclass_multi.proofs.Writing.{interval_written, point_written, interval_size, point_size}
use Rattle.opclass_multi.proofs.bytes.write_element.Goals as goal

pub returns-then-element : goal.returns-then-element
returns-then-element c =
    let e : Element = c.args.element.now in
    let fits : FitsSigned w64 e.least = search rules in
    let also : FitsSigned w64 e.greatest = search rules in
    let wide : int_lt e.least e.greatest ≡ true = grind (arith, ints) in
    interval_written e c.args.at c.args.out.now c.put_i64.new.bytes c.put_i64-then-element.new.bytes fits also wide (omega (arith, c.requires, interval_size e wide)) c.put_i64.ensures.put c.put_i64-then-element.ensures.put

pub returns-else-element : goal.returns-else-element
returns-else-element c =
    let e : Element = c.args.element.now in
    let fits : FitsSigned w64 e.least = search rules in
    let also : FitsSigned w64 e.greatest = search rules in
    let narrow : int_lt e.least e.greatest ≡ false = grind (arith, ints) in
    point_written e c.args.at c.args.out.now c.put_i64-else-element.new.bytes fits narrow (omega (arith, c.requires, point_size e narrow)) c.put_i64-else-element.ensures.put
