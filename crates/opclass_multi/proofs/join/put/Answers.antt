use Rattle.std.proofs.Common.{◌≡◌, ℤ, ◌≤ℤ◌, ◌<ℤ◌, ◌<◌, ◌+◌, ◌++◌, List, length, take, drop, sym, ap, subst, ◌∙◌, arith}
use Rattle.std.specs.Int.{int_min}
use Rattle.std.proofs.lemmas.Int.{ints, clamps}
use Rattle.opclass_multi.specs.declared.element.Element.{Element}
use Rattle.opclass_multi.specs.Elements.{IsOrdered}
use Rattle.opclass_multi.specs.Joined.{with_element, joined}
use Rattle.opclass_multi.proofs.Joining.{ordered_hull}
use Rattle.opclass_multi.proofs.Seams.{behind_apart, passed_apart, passed_joined, met_joined}
use Rattle.opclass_multi.proofs.join.put.Goals as goal
use Rattle.opclass_multi.proofs.join.put.Goals.{then-next-new, else-next-new}

lower : (a b c h : ℤ) → a ≤ℤ c → h ≡ int_min a b → h ≤ℤ c
lower a b c h low is = omega (arith, ints, clamps)

pub places-preserved : goal.places-preserved
places-preserved c =
    let items : List Element = c.places.elements.items in
    let front = c.places.front in
    let back = c.places.back in
    let new : Element = c.places.new in
    let element : Element = c.args.element in
    let next : Element = c.index-next.result.now in
    let inv = c.places.invariant in
    let below : back < length items = omega (arith, c.places-test.true, c.len.ensures, c.places.elements.ok) in
    let is = c.index-next.ensures in
    let apart = behind_apart items back next below is inv.apart in
    let starts : next.least ≤ℤ new.greatest = omega (arith, ints, c.if-new-next.false) in
    elim c.if-next-new.branch [
      | then-next-new w ↦ (
          let gone : next.greatest <ℤ new.least = omega (arith, ints, w.if-next-new.true) in
          rw (w.elements-is, w.new-is, w.front-is) (record {
            places = (omega (arith, inv.places.0), omega (arith, below, c.places.elements.ok), omega (arith, inv.places.2));
            size = inv.size;
            room = inv.room;
            ordered = inv.ordered;
            low = inv.low;
            apart = passed_apart items front back next inv.places.0 below is inv.apart;
            so_far = λ others others_apart after.
                passed_joined items front back element new next others inv.places.0 below is inv.apart inv.ordered inv.low c.requires.ordered gone others_apart after
                ∙ inv.so_far others others_apart after;
          }))
      | else-next-new w ↦ (
          let ends : new.least ≤ℤ next.greatest = omega (arith, ints, w.if-next-new.false) in
          let least : w.hull-new.result.least ≡ int_min new.least next.least = ap (λ (e : Element). e.least) w.hull-new.ensures in
          rw (w.elements-is, w.new-is, w.front-is) (record {
            places = (omega (arith, inv.places.0), omega (arith, below, c.places.elements.ok), omega (arith, inv.places.2));
            size = inv.size;
            room = inv.room;
            ordered = subst IsOrdered (sym w.hull-new.ensures) (ordered_hull new next inv.ordered apart.0);
            low = lower new.least next.least element.least w.hull-new.result.least inv.low least;
            apart = apart.2;
            so_far = λ others others_apart after.
                ap (λ (e : Element). take front items ++ joined (with_element e (drop (back + 1) items)) others) w.hull-new.ensures
                ∙ met_joined items front back new next others below is starts ends
                ∙ inv.so_far others others_apart after;
          }))
    ]
