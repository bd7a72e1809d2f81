use Rattle.std.proofs.Common.{ℕ, ◌<◌, ◌≤◌}
use Rattle.page_map.specs.PageFacts.{facts_in}
use Rattle.page_map.proofs.tuple_room.most_room.Given as goal

abbrev pub invariant-pages : goal.invariant-pages
invariant-pages l = (k : ℕ) → l.start ≤ k → k < l.n → (facts_in l.facts k).room ≤ l.most
