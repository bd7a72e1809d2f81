use Rattle.std.proofs.Common.{List, subst}
use Rattle.std.specs.Prelude.{None, Some}
use Rattle.page_map.specs.declared.facts.PageFacts.{PageFacts}
use Rattle.page_map.specs.FactLists.{IsFirstBehind, IsFirstOfIndex, NoneBehind}
use Rattle.page_map.proofs.FactLists.{behind_next, behind_none, behind_some}
use Rattle.page_map.proofs.fact_list.FactList.first_behind.Goals as goal

pub returns-in-Some : goal.returns-in-Some
returns-in-Some c = subst (λ (l : List PageFacts). IsFirstOfIndex l c.args.need c.args.past (Some c.in-Some.block)) c.self.view_is (behind_some _ _ _ _ _ _ _ c.self.invariant c.args.need c.args.past c.in-Some.block
    (subst (λ (l : List PageFacts). IsFirstBehind l c.args.need c.args.past c.in-Some.block) c.deref.ensures.value c.in-Some.ensures))

pub returns-then-self-limit : goal.returns-then-self-limit
returns-then-self-limit c = subst (λ (l : List PageFacts). IsFirstOfIndex l c.args.need c.args.past (Some c.self.inside.unstarted)) c.self.view_is (behind_next _ _ _ _ _ _ _ c.self.invariant c.args.need c.args.past
    (subst (λ (l : List PageFacts). NoneBehind l c.args.need c.args.past) c.deref.ensures.value c.in-None.ensures) c.if-self-limit.true)

pub returns : goal.returns
returns c = subst (λ (l : List PageFacts). IsFirstOfIndex l c.args.need c.args.past None) c.self.view_is (behind_none _ _ _ _ _ _ _ c.self.invariant c.args.need c.args.past
    (subst (λ (l : List PageFacts). NoneBehind l c.args.need c.args.past) c.deref.ensures.value c.in-None.ensures) c.if-self-limit.false)
