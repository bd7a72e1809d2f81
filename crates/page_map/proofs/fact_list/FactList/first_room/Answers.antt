use Rattle.std.proofs.Common.{List, subst}
use Rattle.std.specs.Prelude.{None, Some}
use Rattle.page_map.specs.declared.facts.PageFacts.{PageFacts}
use Rattle.page_map.specs.FactLists.{IsFirstOf}
use Rattle.page_map.proofs.FactLists.{room_none, room_next, room_some}
use Rattle.page_map.proofs.fact_list.FactList.first_room.Goals as goal

pub returns-then-self-limit : goal.returns-then-self-limit
returns-then-self-limit c = subst (λ (l : List PageFacts). IsFirstOf l (Some c.self.inside.room)) c.self.view_is (room_some _ _ _ _ _ _ _ c.self.invariant c.if-self-limit.true)

pub returns-then-self-limit-2 : goal.returns-then-self-limit-2
returns-then-self-limit-2 c = subst (λ (l : List PageFacts). IsFirstOf l (Some c.self.inside.unstarted)) c.self.view_is (room_next _ _ _ _ _ _ _ c.self.invariant c.if-self-limit.false c.if-self-limit-2.true)

pub returns : goal.returns
returns c = subst (λ (l : List PageFacts). IsFirstOf l None) c.self.view_is (room_none _ _ _ _ _ _ _ c.self.invariant c.if-self-limit.false c.if-self-limit-2.false)
