use Rattle.std.proofs.Common.{◌≡◌, ◌≤ℤ◌, pos, to_z, of_z, Bool, false, ◌+◌, ◌&&◌, List, drop, get_or, sym, ap, ◌∙◌, arith}
use Rattle.std.specs.Int.{w64}
use Rattle.std.specs.List.{list_all}
use Rattle.std.proofs.lemmas.Int.{ints, to_z-of_z}
use Rattle.std.proofs.lemmas.List.{drop_more}
use Rattle.opclass_multi.specs.declared.element.Element.{Element}
use Rattle.opclass_multi.specs.Elements.{point, holds}
use Rattle.opclass_multi.proofs.Holding.{at_apart, hold_alike, first_told}
use Rattle.opclass_multi.proofs.Seams.{apart_rest}
use Rattle.opclass_multi.proofs.widen.hold_all.Goals as goal

pub others-preserved : goal.others-preserved
others-preserved c =
    let es : List Element = c.args.elements.now in
    let os : List Element = c.args.others.now in
    let i = c.others.other-index in
    let d : Element = point (pos 0) in
    let other : Element = get_or os i d in
    let rest : List Element = drop (i + 1) os in
    let some : List Element = drop c.others.from es in
    let apart = at_apart os i d c.others-test.true (apart_rest os i c.requires.others_apart) in
    let order : other.least ≤ℤ other.greatest = apart.0.in_order in
    let least : to_z w64 (of_z w64 other.least) ≡ other.least = to_z-of_z w64 other.least apart.0.least_fits in
    let held : Element → Bool = λ o. holds some o.least o.greatest in
    let here = first_told es os c.others.from c.reach-from.result i d c.is_held.result c.others-test.true c.requires.others_apart (λ p q low o. c.reach-from.ensures.passed p q (omega (arith, ints, least, low)) o) c.is_held.ensures in
    let alike = hold_alike other.greatest some (drop c.reach-from.result es) rest apart.2 apart.1 (λ p q low o. c.reach-from.ensures.passed p q (omega (arith, ints, least, low, order)) o) in
    let whole : list_all held (drop i os) ≡ list_all held rest = ap (list_all held) (drop_more os i d c.others-test.true) ∙ ap (λ (b : Bool). b && list_all held rest) (here ∙ c.if-not-is_held.false) in
    record {
      place = c.reach-from.ensures.place;
      apart = c.reach-from.ensures.apart;
      so_far = alike ∙ sym whole ∙ c.others.invariant.so_far;
    }

pub returns-then-not-is_held : goal.returns-then-not-is_held
returns-then-not-is_held c =
    let es : List Element = c.args.elements.now in
    let os : List Element = c.args.others.now in
    let i = c.others.other-index in
    let d : Element = point (pos 0) in
    let other : Element = get_or os i d in
    let rest : List Element = drop (i + 1) os in
    let apart = at_apart os i d c.others-test.true (apart_rest os i c.requires.others_apart) in
    let least : to_z w64 (of_z w64 other.least) ≡ other.least = to_z-of_z w64 other.least apart.0.least_fits in
    let held : Element → Bool = λ o. holds (drop c.others.from es) o.least o.greatest in
    let here = first_told es os c.others.from c.reach-from.result i d c.is_held.result c.others-test.true c.requires.others_apart (λ p q low o. c.reach-from.ensures.passed p q (omega (arith, ints, least, low)) o) c.is_held.ensures in
    let whole : list_all held (drop i os) ≡ false = ap (list_all held) (drop_more os i d c.others-test.true) ∙ ap (λ (b : Bool). b && list_all held rest) (here ∙ c.if-not-is_held.true) in
    sym whole ∙ c.others.invariant.so_far
