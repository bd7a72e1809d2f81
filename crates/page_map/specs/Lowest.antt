-- the lowest block that has room, or that isn't started
use Rattle.std.specs.Prelude.{◌≡◌, ℕ, ◌<◌, ◌≤◌, ◌==◌, Bool, true, false, List, Option, Some, None}
use Rattle.page_map.specs.declared.facts.PageFacts.{PageFacts}
use Rattle.page_map.specs.declared.lowest.Sought.{Sought}
use Rattle.page_map.specs.declared.lowest.Sought.TheVariants as sought
use Rattle.page_map.specs.PageFacts.{facts_in}

-- there is a slot
abbrev pub has_slot : Option ℕ → Bool
has_slot (Some slot) = true
has_slot None = false

-- a slot is free; the kind of the page is that of one that isn't started
abbrev pub is_sought : Sought → PageFacts → Bool
is_sought sought.Room facts = has_slot facts.lowest
is_sought sought.Unstarted facts = facts.kind == 0

-- of the blocks below the limit, the lowest one that is sought; the limit where there is none
pub record IsLowest (wanted : Sought) (facts : List PageFacts) (limit n : ℕ) : Type 0 where
  pub within : n ≤ limit
  pub lower : (other : ℕ) → other < n → is_sought wanted (facts_in facts other) ≡ false
  pub found : n < limit → is_sought wanted (facts_in facts n) ≡ true
