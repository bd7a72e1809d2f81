use Rattle.std.proofs.Common.{◌≡◌, pos, to_z, of_z, List, get_or, ◌∙◌, arith}
use Rattle.std.specs.Int.{w64}
use Rattle.std.proofs.lemmas.Int.{ints, to_z-of_z}
use Rattle.opclass_multi.specs.declared.element.Element.{Element}
use Rattle.opclass_multi.specs.Elements.{point}
use Rattle.opclass_multi.proofs.Holding.{at_apart, at_passed}
use Rattle.opclass_multi.proofs.widen.reach.Goals as goal

pub places-preserved : goal.places-preserved
places-preserved c =
    let es : List Element = c.args.elements.now in
    let at = c.places.at in
    let d : Element = point (pos 0) in
    let e : Element = get_or es at d in
    let below = c.places-test.true in
    let inv = c.places.invariant in
    let apart = at_apart es at d below inv.apart in
    let greatest : to_z w64 (of_z w64 e.greatest) ≡ e.greatest = to_z-of_z w64 e.greatest apart.0.greatest_fits in
    record {
      place = omega (arith, below);
      apart = apart.2;
      passed = λ p q low order. at_passed es at d p q below (omega (arith, ints, low, greatest, c.if-v-elements.false)) order ∙ inv.passed p q low order;
    }
