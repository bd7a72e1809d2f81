use Rattle.std.proofs.Common.{◌≡◌, ◌<◌, ℕ, false}
use Rattle.page_map.specs.Lowest.{is_sought}
use Rattle.page_map.specs.PageFacts.{facts_in}
use Rattle.page_map.proofs.lowest.first_from.Given as goal

abbrev pub invariant-candidates : goal.invariant-candidates
invariant-candidates l = (other : ℕ) → other < l.n → is_sought l.sought (facts_in l.facts other) ≡ false
