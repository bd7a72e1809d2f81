use Rattle.std.proofs.Common.{◌≡◌, suc, ◌-◌, true, false, Ok, sym, ap, ◌∙◌, rules, arith, FitsSigned}
use Rattle.std.specs.Prelude.{int_lt}
use Rattle.std.specs.Int.{w64}
use Rattle.std.proofs.lemmas.Bool.{cond-true}
use Rattle.opclass_multi.specs.Elements.{weight}
use Rattle.std.proofs.lemmas.Int.{to_z-of_z, ints}
use Rattle.opclass_multi.specs.Reading.{is_above, number_at, sized}
use Rattle.opclass_multi.proofs.Judging.{interval_below, interval_short, interval_narrow, interval_found}
use Rattle.opclass_multi.specs.declared.element.Element.{Element}
use Rattle.opclass_multi.proofs.Writing.{interval_size}
use Rattle.opclass_multi.proofs.bytes.read_interval.Goals as goal

pub returns-then-not-is_above-clause-interval : goal.returns-then-not-is_above-clause-interval
returns-then-not-is_above-clause-interval c =
    let fits : FitsSigned w64 c.int8_at-least.result = search rules in
    let same = to_z-of_z w64 c.int8_at-least.result fits ∙ c.int8_at-least.ensures in
    ap (sized c.args.intervals) (interval_below c.args.before c.args.bytes.now c.requires.begun (sym (c.is_above.ensures ∙ ap (is_above c.args.before) same) ∙ c.if-not-is_above.true))

pub returns-then-bytes-clause-interval : goal.returns-then-bytes-clause-interval
returns-then-bytes-clause-interval c =
    let fits : FitsSigned w64 c.int8_at-least.result = search rules in
    let same = to_z-of_z w64 c.int8_at-least.result fits ∙ c.int8_at-least.ensures in
    ap (sized c.args.intervals) (interval_short c.args.before c.args.bytes.now c.requires.begun (sym (c.is_above.ensures ∙ ap (is_above c.args.before) same) ∙ c.if-not-is_above.false) c.if-bytes.true)

pub returns-then-greatest-least-clause-interval : goal.returns-then-greatest-least-clause-interval
returns-then-greatest-least-clause-interval c =
    let fits : FitsSigned w64 c.int8_at-least.result = search rules in
    let also : FitsSigned w64 c.int8_at-greatest.result = search rules in
    let same = to_z-of_z w64 c.int8_at-least.result fits ∙ c.int8_at-least.ensures in
    let narrow : int_lt c.int8_at-least.result c.int8_at-greatest.result ≡ false = grind (arith, ints) in
    ap (sized c.args.intervals) (interval_narrow c.args.before c.args.bytes.now (sym (c.is_above.ensures ∙ ap (is_above c.args.before) same) ∙ c.if-not-is_above.false) c.if-bytes.false
    ((λ i. int_lt (sym c.int8_at-least.ensures i) (sym c.int8_at-greatest.ensures i)) ∙ narrow))

pub returns-clause-interval : goal.returns-clause-interval
returns-clause-interval c =
    let fits : FitsSigned w64 c.int8_at-least.result = search rules in
    let also : FitsSigned w64 c.int8_at-greatest.result = search rules in
    let same = to_z-of_z w64 c.int8_at-least.result fits ∙ c.int8_at-least.ensures in
    let other = to_z-of_z w64 c.int8_at-greatest.result also ∙ c.int8_at-greatest.ensures in
    let wide : int_lt c.int8_at-least.result c.int8_at-greatest.result ≡ true = grind (arith, ints) in
    let e : Element = record { least = number_at c.args.bytes.now 0; greatest = number_at c.args.bytes.now 8 } in
    let own : int_lt e.least e.greatest ≡ true = (λ i. int_lt (sym c.int8_at-least.ensures i) (sym c.int8_at-greatest.ensures i)) ∙ wide in
    let left : suc c.args.intervals - weight e ≡ c.args.intervals - 1 = (let counts : weight e ≡ 2 = cond-true (int_lt e.least e.greatest) 2 1 own in omega (arith, counts)) in
    (λ i. Ok (record { element = record { least = same i; greatest = other i }; size = sym (interval_size e own) i; intervals = sym left i }))
    ∙ ap (sized c.args.intervals) (interval_found c.args.before c.args.bytes.now (sym (c.is_above.ensures ∙ ap (is_above c.args.before) same) ∙ c.if-not-is_above.false) c.if-bytes.false
    own)
