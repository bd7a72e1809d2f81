use Rattle.std.proofs.Common.{◌≡◌, ◌≤◌, List, length, subst}
use Rattle.std.specs.Prelude.{count_by}
use Rattle.page_map.specs.declared.facts.PageFacts.{PageFacts}
use Rattle.page_map.specs.FactLists.{tells_started}
use Rattle.page_map.proofs.FactLists.{started_all, started_few}
use Rattle.page_map.proofs.fact_list.FactList.started.Goals as goal

pub returns-clause-within : goal.returns-clause-within
returns-clause-within c = subst (λ (l : List PageFacts). c.self.inside.started ≤ length l) c.self.view_is (started_few _ _ _ _ _ _ _ c.self.invariant)

pub returns-clause-count : goal.returns-clause-count
returns-clause-count c = subst (λ (l : List PageFacts). c.self.inside.started ≡ count_by tells_started l) c.self.view_is (started_all _ _ _ _ _ _ _ c.self.invariant)
