-- what memory keeps of the pages of one relation
use Rattle.std.specs.Prelude.{◌≡◌, ℕ, ◌≤◌, ◌<◌, ◌==◌, ◌/◌, ◌⊎◌, not, Bool, true, false, List, Option, Some, None, length, count_by}
use Rattle.page_map.specs.declared.facts.PageFacts.{PageFacts}
use Rattle.page_map.specs.declared.lowest.Sought.TheVariants as sought
use Rattle.page_map.specs.Lowest.{IsLowest, is_sought}
use Rattle.page_map.specs.declared.tuple_room.TheConstants.{GROUP}
use Rattle.page_map.specs.PageFacts.{facts_in}
use Rattle.page_map.specs.TupleRoom.{AreBounded, takes_bytes}

-- the page is started
abbrev pub tells_started : PageFacts → Bool
tells_started facts = not (facts.kind == 0)

-- What holds of every list: it has no more facts than there may be blocks, for all of which there is room in memory; how many
-- pages are started; the lowest block that has a free slot, and the lowest one that isn't started; and a bound of the room for
-- tuples for each group of blocks.
pub record IsFactList (limit : ℕ) (facts : List PageFacts) (capacity started room unstarted : ℕ) (most : List ℕ) : Type 0 where
  pub few : length facts ≤ limit
  pub reserved : limit ≤ capacity
  pub counted : started ≡ count_by tells_started facts
  pub lowest_room : IsLowest sought.Room facts limit room
  pub lowest_unstarted : IsLowest sought.Unstarted facts limit unstarted
  pub groups : limit / GROUP < length most
  pub bounded : AreBounded most facts

-- no block has room
abbrev pub NoneHasRoom : List PageFacts → Type 0
NoneHasRoom facts = (n : ℕ) → is_sought sought.Room (facts_in facts n) ≡ false

-- the lowest block that has room, else the lowest one that isn't started, else none
abbrev pub IsFirstOf : List PageFacts → Option ℕ → Type 0
IsFirstOf facts (Some n) = (n < length facts) × ((IsLowest sought.Room facts (length facts) n) ⊎ (NoneHasRoom facts × IsLowest sought.Unstarted facts (length facts) n))
IsFirstOf facts None = NoneHasRoom facts × IsLowest sought.Unstarted facts (length facts) (length facts)

-- the lowest of the blocks behind that one whose page takes them
pub record IsFirstBehind (facts : List PageFacts) (need past n : ℕ) : Type 0 where
  pub there : n < length facts
  pub behind : past < n
  pub takes : takes_bytes need (facts_in facts n) ≡ true
  pub lower : (other : ℕ) → past < other → other < n → takes_bytes need (facts_in facts other) ≡ false

-- no page of a block behind that one takes them
abbrev pub NoneBehind : List PageFacts → ℕ → ℕ → Type 0
NoneBehind facts need past = (n : ℕ) → past < n → takes_bytes need (facts_in facts n) ≡ false

-- what is found in a list of facts
abbrev pub IsFoundBehind : List PageFacts → ℕ → ℕ → Option ℕ → Type 0
IsFoundBehind facts need past (Some n) = IsFirstBehind facts need past n
IsFoundBehind facts need past None = NoneBehind facts need past

-- that block, else the lowest one that isn't started, else none
abbrev pub IsFirstOfIndex : List PageFacts → ℕ → ℕ → Option ℕ → Type 0
IsFirstOfIndex facts need past (Some n) = IsFirstBehind facts need past n ⊎ (NoneBehind facts need past × (n < length facts) × IsLowest sought.Unstarted facts (length facts) n)
IsFirstOfIndex facts need past None = NoneBehind facts need past × IsLowest sought.Unstarted facts (length facts) (length facts)
