use Rattle.std.proofs.Common.{◌≡◌, ℤ, true, List, arith, ap, sym, subst, ◌∙◌}
use Rattle.std.proofs.lemmas.Bool.{both_ways}
use Rattle.std.specs.Int.{w64}
use Rattle.std.proofs.lemmas.Int.{to_z-of_z}
use Rattle.opclass_multi.specs.declared.element.Element.{Element}
use Rattle.opclass_multi.specs.Elements.{point, IsOrdered, AreApart, count_of, holds}
use Rattle.opclass_multi.specs.Joined.{with_element}
use Rattle.opclass_multi.specs.Reduced.{reduced}
use Rattle.opclass_multi.proofs.Reducing.{count_least}
use Rattle.opclass_multi.proofs.Widening.{ordered_point, apart_point, apart_widened, widened_holds, within_limit}
use Rattle.opclass_multi.proofs.widen.widen.Goals as goal

pub join-requires-clause-room : goal.join-requires-clause-room
join-requires-clause-room c = omega (arith, c.args.elements.now.ok, count_least c.args.elements.now.items)

pub join-requires-clause-others_apart : goal.join-requires-clause-others_apart
join-requires-clause-others_apart c =
    let point_is = c.point.ensures ∙ ap point (to_z-of_z w64 c.args.v c.ranges.v) in
    (subst IsOrdered (sym point_is) (ordered_point c.args.v c.ranges.v), tt, tt)

pub reduce-requires-clause-few : goal.reduce-requires-clause-few
reduce-requires-clause-few c = omega (arith, c.args.elements.now.ok, c.join.ensures.size, count_least c.args.elements.now.items)

pub reduce-requires-clause-apart : goal.reduce-requires-clause-apart
reduce-requires-clause-apart c =
    let point_is = c.point.ensures ∙ ap point (to_z-of_z w64 c.args.v c.ranges.v) in
    let added = c.join.ensures.joined ∙ ap (λ (e : Element). with_element e c.args.elements.now.items) point_is in
    subst AreApart (sym added) (apart_point c.args.v c.args.elements.now.items c.ranges.v c.requires.apart)

-- what the two calls leave
left : (c : goal.After-reduce) → c.reduce.new.elements.items ≡ reduced c.args.limit (with_element (point c.args.v) c.args.elements.now.items)
left c =
    c.reduce.ensures.reduced
    ∙ ap (reduced c.args.limit) (c.join.ensures.joined ∙ ap (λ (e : Element). with_element e c.args.elements.now.items) (c.point.ensures ∙ ap point (to_z-of_z w64 c.args.v c.ranges.v)))

pub returns-clause-apart : goal.returns-clause-apart
returns-clause-apart c = subst AreApart (sym (left c)) (apart_widened c.args.limit c.args.v c.args.elements.now.items c.ranges.v c.requires.apart)

pub returns-clause-within : goal.returns-clause-within
returns-clause-within c =
    omega (arith, ap count_of (left c), within_limit c.args.limit (with_element (point c.args.v) c.args.elements.now.items) c.requires.limit.0)

pub returns-clause-changed : goal.returns-clause-changed
returns-clause-changed c = λ told same.
    let items : List Element = c.args.elements.now.items in
    let now : holds items c.args.v c.args.v ≡ true =
    ap (λ (es : List Element). holds es c.args.v c.args.v) (sym {A = List Element} same ∙ left c) ∙ widened_holds c.args.limit c.args.v items c.ranges.v c.requires.apart in
    let was : c.holds.result ≡ holds items c.args.v c.args.v =
    c.holds.ensures ∙ ap (λ (v : ℤ). holds c.as_slice.result.now v v) (to_z-of_z w64 c.args.v c.ranges.v) ∙ ap (λ (es : List Element). holds es c.args.v c.args.v) c.as_slice.ensures.value in
    both_ways c.holds.result c.if-holds.false (was ∙ now)
