-- the pages of an index that have room for a tuple, by what memory keeps of each
use Rattle.std.specs.Prelude.{◌≡◌, ℕ, ◌/◌, ◌<◌, ◌≤◌, ◌==◌, ◌&&◌, nat_le, Bool, true, false, List, Option, None, Some, length, slice_index}
use Rattle.page_redo.specs.TheConstants.{REGULAR}
use Rattle.page_map.specs.declared.facts.PageFacts.{PageFacts}
use Rattle.page_map.specs.declared.tuple_room.TheConstants.{GROUP}
use Rattle.page_map.specs.PageFacts.{facts_in}

-- a page of tuples that isn't being evacuated takes one of that many bytes
abbrev pub takes_bytes : ℕ → PageFacts → Bool
takes_bytes need facts = (facts.kind == REGULAR) && nat_le need facts.room

-- the bound of the room of the pages in the group of a block
abbrev pub bound_of : List ℕ → ℕ → ℕ
bound_of most block = slice_index most (block / GROUP)

-- no page has more room than the bound of its group
abbrev pub AreBounded : List ℕ → List PageFacts → Type 0
AreBounded most facts = (n : ℕ) → (facts_in facts n).room ≤ bound_of most n

-- of the blocks from one on and from another on, the lowest one whose page takes them, below the end
pub record IsFirstIn (facts : List PageFacts) (need first start end n : ℕ) : Type 0 where
  pub there : n < length facts
  pub below : n < end
  pub behind : first ≤ n
  pub inside : start ≤ n
  pub takes : takes_bytes need (facts_in facts n) ≡ true
  pub lower : (other : ℕ) → first ≤ other → start ≤ other → other < n → takes_bytes need (facts_in facts other) ≡ false

-- no page of these blocks takes them
abbrev pub NoneIn : List PageFacts → ℕ → ℕ → ℕ → ℕ → Type 0
NoneIn facts need first start end = (n : ℕ) → first ≤ n → start ≤ n → n < end → takes_bytes need (facts_in facts n) ≡ false

-- what is found among them
abbrev pub IsFoundIn : List PageFacts → ℕ → ℕ → ℕ → ℕ → Option ℕ → Type 0
IsFoundIn facts need first start end (Some n) = IsFirstIn facts need first start end n
IsFoundIn facts need first start end None = NoneIn facts need first start end
