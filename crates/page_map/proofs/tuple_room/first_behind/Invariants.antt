use Rattle.std.proofs.Common.{◌≡◌, ℕ, ◌*◌, ◌<◌, false}
use Rattle.page_map.specs.PageFacts.{facts_in}
use Rattle.page_map.specs.TupleRoom.{takes_bytes}
use Rattle.page_map.specs.declared.tuple_room.TheConstants.{GROUP}
use Rattle.page_map.proofs.tuple_room.first_behind.Given as goal

abbrev pub invariant-groups : goal.invariant-groups
invariant-groups l = (k : ℕ) → l.past < k → k < l.group * GROUP → takes_bytes l.need (facts_in l.facts k) ≡ false
