use Rattle.std.proofs.Common.{rules, FitsSigned, ◌≡◌, ◌≤ℤ◌, ℤ, List, length, subst, ap, sym, ◌∙◌, arith}
use Rattle.std.specs.Int.{w128}
use Rattle.std.proofs.lemmas.Int.{to_z-of_z}
use Rattle.opclass_multi.specs.declared.element.Element.{Element}
use Rattle.opclass_multi.specs.Elements.{AreApart, count_of}
use Rattle.opclass_multi.specs.Closing.{swept}
use Rattle.opclass_multi.specs.Reduced.{gap_at, IsLeastGap, reduced}
use Rattle.opclass_multi.proofs.Reducing.{over_has_two}
use Rattle.opclass_multi.proofs.Closed.{all_gaps, swept_least, apart_swept, fewer_swept}
use Rattle.opclass_multi.proofs.reduce.close_narrowest.Goals as goal

pub least_gap-at-requires : goal.least_gap-at-requires
least_gap-at-requires c = omega (arith, over_has_two c.args.limit c.args.elements.now.items c.requires.some (omega (arith, c.requires.counted, c.requires.over)), ap length c.as_slice.ensures.value)

-- what the sweep leaves
left : (c : goal.After-sweep) → c.sweep.new.elements.items ≡ swept c.args.limit (gap_at c.args.elements.now.items c.least_gap-at.result) (count_of c.args.elements.now.items) c.args.elements.now.items
left c =
    let items : List Element = c.args.elements.now.items in
    let fits : FitsSigned w128 c.gap-width.result = search rules in
    let width = to_z-of_z w128 c.gap-width.result fits ∙ c.gap-width.ensures ∙ ap (λ (es : List Element). gap_at es c.least_gap-at.result) c.as_slice-2.ensures.value in
    c.sweep.ensures.swept ∙ (λ i. swept c.args.limit (width i) (c.requires.counted i) items)

is_least : (c : goal.After-sweep) → IsLeastGap c.args.elements.now.items c.least_gap-at.result
is_least c = subst (λ (es : List Element). IsLeastGap es c.least_gap-at.result) c.as_slice.ensures.value c.least_gap-at.ensures

pub returns-clause-apart : goal.returns-clause-apart
returns-clause-apart c = subst AreApart (sym (left c)) (apart_swept c.args.limit (gap_at c.args.elements.now.items c.least_gap-at.result) (count_of c.args.elements.now.items) c.args.elements.now.items c.requires.apart)

pub returns-clause-reduced : goal.returns-clause-reduced
returns-clause-reduced c =
    let items : List Element = c.args.elements.now.items in
    let w = gap_at items c.least_gap-at.result in
    ap (reduced c.args.limit) (left c) ∙ swept_least (length items) c.args.limit w items (omega arith) c.requires.some c.requires.apart (all_gaps (λ (g : ℤ). w ≤ℤ g) items (is_least c).least)

pub returns-clause-fewer : goal.returns-clause-fewer
returns-clause-fewer c =
    let items : List Element = c.args.elements.now.items in
    omega (arith, ap length (left c), fewer_swept c.args.limit (count_of items) c.least_gap-at.result items (omega (arith, c.requires.counted, c.requires.over)) (is_least c), c.args.elements.now.ok, c.sweep.new.elements.ok)
