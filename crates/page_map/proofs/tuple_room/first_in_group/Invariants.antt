use Rattle.std.proofs.Common.{◌≡◌, ℕ, ◌<◌, ◌≤◌, false}
use Rattle.page_map.specs.PageFacts.{facts_in}
use Rattle.page_map.specs.TupleRoom.{takes_bytes}
use Rattle.page_map.proofs.tuple_room.first_in_group.Given as goal

abbrev pub invariant-candidates : goal.invariant-candidates
invariant-candidates l = (k : ℕ) → l.first ≤ k → l.start ≤ k → k < l.n → takes_bytes l.need (facts_in l.facts k) ≡ false
