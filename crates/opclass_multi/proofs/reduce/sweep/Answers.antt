use Rattle.std.proofs.Common.{rules, ◌≡◌, ◌+◌, ◌-◌, ◌<◌, ◌^◌, to_z, of_z, List, ◌∷◌, ◌++◌, length, take, drop, ap, sym, subst, ◌∙◌, arith}
use Rattle.std.specs.Int.{w128}
use Rattle.std.proofs.lemmas.List.{length-take, length-drop}
use Rattle.opclass_multi.specs.declared.element.Element.{Element}
use Rattle.opclass_multi.specs.Elements.{AreApart, count_of, weight}
use Rattle.opclass_multi.specs.Closing.{swept_from}
use Rattle.opclass_multi.proofs.Reducing.{count_most}
use Rattle.opclass_multi.proofs.Closed.{step_apart, span_apart, on_counted, on_swept, past_swept, past_counted, past_apart, end_counted}
use Rattle.opclass_multi.proofs.reduce.sweep.Goals as goal
use Rattle.opclass_multi.proofs.reduce.sweep.Goals.{then-is_closed, else-is_closed}

pub overflow_add-left : goal.overflow_add-left
overflow_add-left c =
    let items : List Element = c.places.elements.items in
    let last : Element = c.places.last in
    let few : c.places.left + 2 < 2 ^ 64 = omega (arith, c.places.invariant.counted, count_most (take c.places.kept items), count_most (last ∷ drop c.places.at items), length-take c.places.kept items, length-drop c.places.at items, c.places.invariant.size, c.places.elements.ok, c.requires.few) in
    search rules

pub places-preserved : goal.places-preserved
places-preserved c =
    let items : List Element = c.places.elements.items in
    let at = c.places.at in
    let kept = c.places.kept in
    let left = c.places.left in
    let last : Element = c.places.last in
    let next : Element = c.index-in-places.result.now in
    let fs : List Element = drop (at + 1) items in
    let width = to_z w128 (of_z w128 c.args.width) in
    let inv = c.places.invariant in
    let below : at < length items = omega (arith, c.places-test.true, inv.size, c.places.elements.ok, c.len-at-end.ensures) in
    let is = c.index-in-places.ensures in
    elim c.if-is_closed.branch [
      | then-is_closed w ↦ (
          let weights : left + 2 - w.weight.result - w.weight-then-is_closed.result ≡ left + 2 - weight last - weight next = omega (arith, w.weight.ensures, w.weight-then-is_closed.ensures) in
          rw (w.elements-is, w.left-is, w.last-is, w.kept-is) (record {
            behind = omega (arith, inv.behind);
            size = inv.size;
            room = inv.room;
            apart = subst (λ (x : Element). AreApart (x ∷ fs)) (sym w.to-last.ensures) (span_apart last next fs (step_apart items at last next below is inv.apart));
            counted = weights ∙ on_counted items at kept left last next below is inv.apart inv.counted ∙ ap (λ (x : Element). count_of (take kept items) + count_of (x ∷ fs)) (sym w.to-last.ensures);
            so_far =
                (λ i. take kept items ++ swept_from c.args.limit width (weights i) (w.to-last.ensures i) fs)
                ∙ on_swept c.args.limit width left kept at items _ last next below is (sym c.is_closed.ensures ∙ w.if-is_closed.true) inv.so_far;
          }))
      | else-is_closed w ↦
          rw (w.elements-is, w.left-is, w.last-is, w.kept-is) (record {
            behind = omega (arith, inv.behind);
            size = inv.size;
            room = inv.room;
            apart = past_apart items at kept last next inv.behind below is inv.apart;
            counted = past_counted items at kept left last next inv.behind below is inv.counted;
            so_far = past_swept c.args.limit width left kept at items _ last next inv.behind below is (sym c.is_closed.ensures ∙ w.if-is_closed.false) inv.so_far;
          })
    ]

pub returns-clause-counted : goal.returns-clause-counted
returns-clause-counted c =
    let inv = c.places.invariant in
    let items : List Element = c.places.elements.items in
    let end : c.places.at ≡ length items = omega (arith, c.places-test.false, c.places.auto.at, c.places.auto.at-end, c.len-at-end.ensures, inv.size, c.places.elements.ok, c.args.elements.now.ok, c.requires.some) in
    end_counted items c.places.at c.places.kept c.places.left c.places.last inv.behind end inv.counted ∙ ap count_of (sym c.truncate.ensures.items)
