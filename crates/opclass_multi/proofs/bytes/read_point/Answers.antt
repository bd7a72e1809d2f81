use Rattle.std.proofs.Common.{◌≡◌, suc, ◌-◌, false, Ok, sym, ap, ◌∙◌, rules, arith, FitsSigned}
use Rattle.std.specs.Prelude.{int_lt}
use Rattle.std.specs.Int.{w64}
use Rattle.std.proofs.lemmas.Bool.{cond-false}
use Rattle.std.proofs.lemmas.Int.{ints, to_z-of_z}
use Rattle.opclass_multi.specs.Elements.{point, weight}
use Rattle.opclass_multi.specs.Reading.{is_above, number_at, sized}
use Rattle.opclass_multi.proofs.Judging.{point_below, point_found}
use Rattle.opclass_multi.proofs.Writing.{point_size}
use Rattle.opclass_multi.proofs.bytes.read_point.Goals as goal

pub returns-then-not-is_above-clause-point : goal.returns-then-not-is_above-clause-point
returns-then-not-is_above-clause-point c =
    let fits : FitsSigned w64 c.int8_at-number.result = search rules in
    let same = to_z-of_z w64 c.int8_at-number.result fits ∙ c.int8_at-number.ensures in
    ap (sized c.args.intervals) (point_below c.args.before c.args.bytes.now c.requires.whole (sym (c.is_above.ensures ∙ ap (is_above c.args.before) same) ∙ c.if-not-is_above.true))

pub returns-clause-point : goal.returns-clause-point
returns-clause-point c =
    let fits : FitsSigned w64 c.int8_at-number.result = search rules in
    let same = to_z-of_z w64 c.int8_at-number.result fits ∙ c.int8_at-number.ensures in
    let v = number_at c.args.bytes.now 0 in
    let narrow : int_lt v v ≡ false = grind (arith, ints) in
    let left : suc c.args.intervals - weight (point v) ≡ c.args.intervals = (let counts : weight (point v) ≡ 1 = cond-false (int_lt v v) 2 1 narrow in omega (arith, counts)) in
    (λ i. Ok (record { element = (c.point.ensures ∙ ap point same) i; size = sym (point_size (point v) narrow) i; intervals = sym left i }))
    ∙ ap (sized c.args.intervals) (point_found c.args.before c.args.bytes.now c.requires.whole (sym (c.is_above.ensures ∙ ap (is_above c.args.before) same) ∙ c.if-not-is_above.false))
