use Rattle.std.proofs.Common.{rules, FitsSigned, ◌<◌, pos, List, length, arith}
use Rattle.std.specs.Int.{w64}
use Rattle.std.proofs.lemmas.Int.{to_z-of_z}
use Rattle.opclass_multi.specs.declared.element.Element.{Element}
use Rattle.opclass_multi.specs.Elements.{point}
use Rattle.opclass_multi.proofs.Holding.{at_held}
use Rattle.opclass_multi.proofs.widen.is_held.Goals as goal

pub returns : goal.returns
returns c =
    let es : List Element = c.args.elements.now in
    let other : Element = c.args.other in
    let low : FitsSigned w64 other.least = search rules in
    let high : FitsSigned w64 other.greatest = search rules in
    let least = to_z-of_z w64 other.least low in
    let greatest = to_z-of_z w64 other.greatest high in
    let below : c.args.at < length es = omega (arith, c.requires.place, c.if-at-elements.false) in
    let held = at_held es c.args.at (point (pos 0)) other.least other.greatest below c.requires.apart c.requires.reached in
    let told = c.covers.ensures in
    cc
