use Rattle.std.proofs.Common.{◌≡◌, ◌∙◌, ◌<◌, List, length, set, refl, ap, subst, arith}
use Rattle.std.proofs.lemmas.List.{get_or_default}
use Rattle.page_map.specs.declared.facts.PageFacts.{PageFacts}
use Rattle.page_map.specs.declared.lowest.Sought.TheVariants as sought
use Rattle.page_map.specs.Filled.{filled}
use Rattle.page_map.specs.Lowest.{IsLowest}
use Rattle.page_map.specs.PageFacts.{facts_in, no_facts}
use Rattle.page_map.specs.TupleRoom.{AreBounded}
use Rattle.page_map.proofs.FactLists.{full_length, recounted, weight}
use Rattle.page_map.proofs.Filling.{filled-set, filled_set-other, read-filled}
use Rattle.page_map.proofs.Soughts.{found_kept, lower_kept}
use Rattle.page_map.proofs.fact_list.FactList.note.Goals as goal

pub reach-requires : goal.reach-requires
reach-requires c = omega (arith, c.requires, ap (length {A = PageFacts}) c.self.view_is, full_length c.self.inside.limit c.self.inside.items.items c.self.invariant.few, c.self.invariant.reserved)

pub overflow_sub-self : goal.overflow_sub-self
overflow_sub-self c =
    let old = c.self.inside.items.items in
    let limit = c.self.inside.limit in
    let reached = c.reach.new.items.items in
    let below : c.args.at < limit = omega (arith, c.requires, ap (length {A = PageFacts}) c.self.view_is, full_length limit old c.self.invariant.few) in
    let before = c.started.ensures ∙ ap weight (c.index-before.ensures ∙ get_or_default reached c.args.at c.index-before.result.now no_facts c.reach.ensures.there) in
    let count = recounted limit old reached (set reached c.args.at c.args.facts) c.args.at c.args.facts c.self.inside.started c.started.result (weight c.args.facts) below c.self.invariant.few c.reach.ensures.items refl c.self.invariant.counted before refl in
    count.less

pub overflow_add-self : goal.overflow_add-self
overflow_add-self c =
    let old = c.self.inside.items.items in
    let limit = c.self.inside.limit in
    let reached = c.reach.new.items.items in
    let below : c.args.at < limit = omega (arith, c.requires, ap (length {A = PageFacts}) c.self.view_is, full_length limit old c.self.invariant.few) in
    let before = c.started.ensures ∙ ap weight (c.index-before.ensures ∙ get_or_default reached c.args.at c.index-before.result.now no_facts c.reach.ensures.there) in
    let count = recounted limit old reached (set reached c.args.at c.args.facts) c.args.at c.args.facts c.self.inside.started c.started.result c.started-2.result below c.self.invariant.few c.reach.ensures.items refl c.self.invariant.counted before c.started-2.ensures in
    omega (arith, count.most, c.self.ranges)

pub lowest-self-inside-requires-clause-few : goal.lowest-self-inside-requires-clause-few
lowest-self-inside-requires-clause-few c =
    let old = c.self.inside.items.items in
    let limit = c.self.inside.limit in
    let reached = c.reach.new.items.items in
    let below : c.args.at < limit = omega (arith, c.requires, ap (length {A = PageFacts}) c.self.view_is, full_length limit old c.self.invariant.few) in
    let before = c.started.ensures ∙ ap weight (c.index-before.ensures ∙ get_or_default reached c.args.at c.index-before.result.now no_facts c.reach.ensures.there) in
    let count = recounted limit old reached (set reached c.args.at c.args.facts) c.args.at c.args.facts c.self.inside.started c.started.result c.started-2.result below c.self.invariant.few c.reach.ensures.items refl c.self.invariant.counted before c.started-2.ensures in
    omega (arith, count.few, ap (length {A = PageFacts}) c.deref.ensures.value)

pub lowest-self-inside-requires-clause-lower : goal.lowest-self-inside-requires-clause-lower
lowest-self-inside-requires-clause-lower c =
    lower_kept sought.Room c.self.inside.items.items c.deref.result.now c.self.inside.limit c.self.inside.room c.args.at c.args.facts c.self.invariant.lowest_room (c.deref.ensures.value ∙ ap (λ (l : List PageFacts). set l c.args.at c.args.facts) c.reach.ensures.items)

pub lowest-self-inside-requires-clause-found : goal.lowest-self-inside-requires-clause-found
lowest-self-inside-requires-clause-found c =
    found_kept sought.Room c.self.inside.items.items c.deref.result.now c.self.inside.limit c.self.inside.room c.args.at c.args.facts c.self.invariant.lowest_room (c.deref.ensures.value ∙ ap (λ (l : List PageFacts). set l c.args.at c.args.facts) c.reach.ensures.items)

pub lowest-self-inside-requires-2-clause-few : goal.lowest-self-inside-requires-2-clause-few
lowest-self-inside-requires-2-clause-few c =
    let old = c.self.inside.items.items in
    let limit = c.self.inside.limit in
    let reached = c.reach.new.items.items in
    let below : c.args.at < limit = omega (arith, c.requires, ap (length {A = PageFacts}) c.self.view_is, full_length limit old c.self.invariant.few) in
    let before = c.started.ensures ∙ ap weight (c.index-before.ensures ∙ get_or_default reached c.args.at c.index-before.result.now no_facts c.reach.ensures.there) in
    let count = recounted limit old reached (set reached c.args.at c.args.facts) c.args.at c.args.facts c.self.inside.started c.started.result c.started-2.result below c.self.invariant.few c.reach.ensures.items refl c.self.invariant.counted before c.started-2.ensures in
    omega (arith, count.few, ap (length {A = PageFacts}) c.deref-2.ensures.value)

pub lowest-self-inside-requires-2-clause-lower : goal.lowest-self-inside-requires-2-clause-lower
lowest-self-inside-requires-2-clause-lower c =
    lower_kept sought.Unstarted c.self.inside.items.items c.deref-2.result.now c.self.inside.limit c.self.inside.unstarted c.args.at c.args.facts c.self.invariant.lowest_unstarted (c.deref-2.ensures.value ∙ ap (λ (l : List PageFacts). set l c.args.at c.args.facts) c.reach.ensures.items)

pub lowest-self-inside-requires-2-clause-found : goal.lowest-self-inside-requires-2-clause-found
lowest-self-inside-requires-2-clause-found c =
    found_kept sought.Unstarted c.self.inside.items.items c.deref-2.result.now c.self.inside.limit c.self.inside.unstarted c.args.at c.args.facts c.self.invariant.lowest_unstarted (c.deref-2.ensures.value ∙ ap (λ (l : List PageFacts). set l c.args.at c.args.facts) c.reach.ensures.items)

pub bound-requires-clause-group : goal.bound-requires-clause-group
bound-requires-clause-group c =
    let below : c.args.at < c.self.inside.limit = omega (arith, c.requires, ap (length {A = PageFacts}) c.self.view_is, full_length c.self.inside.limit c.self.inside.items.items c.self.invariant.few) in
    omega (arith, below, c.self.invariant.groups)

pub bound-requires-clause-before : goal.bound-requires-clause-before
bound-requires-clause-before c =
    let read = read-filled no_facts c.self.inside.items.items c.reach.new.items.items c.args.at c.index-before.result.now c.reach.ensures.items c.index-before.ensures in
    omega (arith, ap (λ (f : PageFacts). f.room) read, c.self.invariant.bounded c.args.at)

pub bound-requires-clause-others : goal.bound-requires-clause-others
bound-requires-clause-others c = λ n differ.
    let old = c.self.inside.items.items in
    let same : facts_in c.deref-3.result.now n ≡ facts_in old n =
    ap (λ (l : List PageFacts). facts_in l n) (c.deref-3.ensures.value ∙ ap (λ (l : List PageFacts). set l c.args.at c.args.facts) c.reach.ensures.items) ∙ filled_set-other no_facts old c.args.at c.args.facts n differ in
    omega (arith, ap (λ (f : PageFacts). f.room) same, c.self.invariant.bounded n)

pub invariant_of-self : goal.invariant_of-self
invariant_of-self c =
    let old = c.self.inside.items.items in
    let limit = c.self.inside.limit in
    let reached = c.reach.new.items.items in
    let below : c.args.at < limit = omega (arith, c.requires, ap (length {A = PageFacts}) c.self.view_is, full_length limit old c.self.invariant.few) in
    let before = c.started.ensures ∙ ap weight (c.index-before.ensures ∙ get_or_default reached c.args.at c.index-before.result.now no_facts c.reach.ensures.there) in
    let count = recounted limit old reached (set reached c.args.at c.args.facts) c.args.at c.args.facts c.self.inside.started c.started.result c.started-2.result below c.self.invariant.few c.reach.ensures.items refl c.self.invariant.counted before c.started-2.ensures in
    record {
      few = count.few;
      reserved = omega (arith, c.self.invariant.reserved, c.reach.ensures.room);
      counted = count.sum;
      lowest_room = subst (λ (l : List PageFacts). IsLowest sought.Room l limit c.lowest-self-inside.result) c.deref.ensures.value c.lowest-self-inside.ensures;
      lowest_unstarted = subst (λ (l : List PageFacts). IsLowest sought.Unstarted l limit c.lowest-self-inside-2.result) c.deref-2.ensures.value c.lowest-self-inside-2.ensures;
      groups = omega (arith, c.self.invariant.groups, c.bound.ensures.groups);
      bounded = subst (AreBounded c.bound.new.most.items) c.deref-3.ensures.value c.bound.ensures.bounded;
    }

pub returns : goal.returns
returns c =
    let old = c.self.inside.items.items in
    let limit = c.self.inside.limit in
    let below : c.args.at < limit = omega (arith, c.requires, ap (length {A = PageFacts}) c.self.view_is, full_length limit old c.self.invariant.few) in
    ap (λ (l : List PageFacts). filled no_facts limit (set l c.args.at c.args.facts)) c.reach.ensures.items
    ∙ filled-set no_facts limit old c.args.at c.args.facts below
    ∙ ap (λ (l : List PageFacts). set l c.args.at c.args.facts) c.self.view_is
