use Rattle.std.proofs.Common.{rules, FitsSigned, ◌≡◌, ◌<◌, pos, List, length, subst, ap, sym, ◌∙◌, arith}
use Rattle.std.specs.Int.{w128}
use Rattle.std.proofs.lemmas.Int.{to_z-of_z}
use Rattle.opclass_multi.specs.declared.element.Element.{Element}
use Rattle.opclass_multi.specs.Elements.{AreApart, count_of}
use Rattle.opclass_multi.specs.Closing.{closed, swept}
use Rattle.opclass_multi.specs.Reduced.{reduced}
use Rattle.opclass_multi.proofs.Closed.{closed_swept, reduced_closed, apart_swept, length_swept}
use Rattle.opclass_multi.proofs.reduce.close_needed.Goals as goal

-- what the sweep leaves
left : (c : goal.After-sweep) → c.sweep.new.elements.items ≡ swept c.args.limit (pos c.needed_width-width.result) (count_of c.args.elements.now.items) c.args.elements.now.items
left c =
    let fits : FitsSigned w128 c.from.result = search rules in
    let width = to_z-of_z w128 c.from.result fits ∙ c.from.ensures in
    c.sweep.ensures.swept ∙ (λ i. swept c.args.limit (width i) (c.requires.counted i) c.args.elements.now.items)

pub returns-clause-apart : goal.returns-clause-apart
returns-clause-apart c = subst AreApart (sym (left c)) (apart_swept c.args.limit (pos c.needed_width-width.result) (count_of c.args.elements.now.items) c.args.elements.now.items c.requires.apart)

pub returns-clause-reduced : goal.returns-clause-reduced
returns-clause-reduced c =
    let items : List Element = c.args.elements.now.items in
    let w = pos c.needed_width-width.result in
    let over : c.args.limit < count_of (closed w items) = omega (arith, c.needed_width-width.ensures.needed, ap (λ (es : List Element). count_of (closed w es)) c.as_slice.ensures.value) in
    ap (reduced c.args.limit) (left c ∙ closed_swept c.args.limit w items c.requires.apart over) ∙ reduced_closed (length items) c.args.limit w items (omega arith) c.requires.some c.requires.apart over

pub returns-clause-size : goal.returns-clause-size
returns-clause-size c =
    let items : List Element = c.args.elements.now.items in
    omega (arith, ap length (left c), length_swept c.args.limit (pos c.needed_width-width.result) (count_of items) items, c.args.elements.now.ok, c.sweep.new.elements.ok)
