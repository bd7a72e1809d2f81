use Rattle.std.proofs.Common.{◌≡◌, true, false, List, arith, ap, sym, subst, ◌∙◌}
use Rattle.std.specs.List.{list_all}
use Rattle.opclass_multi.specs.declared.element.Element.{Element}
use Rattle.opclass_multi.specs.Elements.{AreApart, count_of, holds}
use Rattle.opclass_multi.specs.Joined.{joined}
use Rattle.opclass_multi.specs.Reduced.{reduced}
use Rattle.opclass_multi.proofs.Joining.{apart_joined}
use Rattle.opclass_multi.proofs.Reducing.{count_least}
use Rattle.opclass_multi.proofs.Widening.{apart_united, within_limit, united_same, united_changed}
use Rattle.opclass_multi.proofs.widen.unite.Goals as goal

pub returns-then-hold_all-clause-widened : goal.returns-then-hold_all-clause-widened
returns-then-hold_all-clause-widened c =
    let items : List Element = c.args.elements.now.items in
    let others : List Element = c.args.others.now in
    let held : list_all (λ (f : Element). holds items f.least f.greatest) others ≡ true =
    ap (λ (es : List Element). list_all (λ (f : Element). holds es f.least f.greatest) others) (sym c.as_slice.ensures.value) ∙ sym c.hold_all.ensures ∙ c.if-hold_all.true in
    sym (united_same c.args.limit items others c.requires.apart c.requires.others_apart c.requires.within held)

pub hold_all-requires-clause-apart : goal.hold_all-requires-clause-apart
hold_all-requires-clause-apart c = subst AreApart (sym c.as_slice.ensures.value) c.requires.apart

pub join-requires-clause-room : goal.join-requires-clause-room
join-requires-clause-room c = omega (arith, c.args.elements.now.ok, count_least c.args.elements.now.items, count_least c.args.others.now)

pub reduce-requires-clause-few : goal.reduce-requires-clause-few
reduce-requires-clause-few c = omega (arith, c.args.elements.now.ok, c.join.ensures.size, count_least c.args.elements.now.items, count_least c.args.others.now)

pub reduce-requires-clause-apart : goal.reduce-requires-clause-apart
reduce-requires-clause-apart c = subst AreApart (sym c.join.ensures.joined) (apart_joined c.args.elements.now.items c.args.others.now c.requires.apart c.requires.others_apart)

-- what the two calls leave
left : (c : goal.After-reduce) → c.reduce.new.elements.items ≡ reduced c.args.limit (joined c.args.elements.now.items c.args.others.now)
left c = c.reduce.ensures.reduced ∙ ap (reduced c.args.limit) c.join.ensures.joined

pub returns-clause-apart : goal.returns-clause-apart
returns-clause-apart c = subst AreApart (sym (left c)) (apart_united c.args.limit c.args.elements.now.items c.args.others.now c.requires.apart c.requires.others_apart)

pub returns-clause-within : goal.returns-clause-within
returns-clause-within c = omega (arith, ap count_of (left c), within_limit c.args.limit (joined c.args.elements.now.items c.args.others.now) c.requires.limit.0)

pub returns-clause-changed : goal.returns-clause-changed
returns-clause-changed c = λ told same.
    let items : List Element = c.args.elements.now.items in
    let others : List Element = c.args.others.now in
    let missing : list_all (λ (f : Element). holds items f.least f.greatest) others ≡ false =
    ap (λ (es : List Element). list_all (λ (f : Element). holds es f.least f.greatest) others) (sym c.as_slice.ensures.value) ∙ sym c.hold_all.ensures ∙ c.if-hold_all.false in
    united_changed c.args.limit items others c.requires.apart c.requires.others_apart missing (sym (left c) ∙ same)
