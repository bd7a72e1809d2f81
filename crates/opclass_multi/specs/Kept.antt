-- summaries, with their limit
use Rattle.std.specs.Prelude.{◌≡◌, ℕ, ℤ, ◌≤◌, if◌then◌else◌, List, []}
use Rattle.block_model.specs.declared.value.Value.{Value}
use Rattle.block_model.specs.declared.value.Value.TheVariants.{Int}
use Rattle.opclass_multi.specs.declared.element.Element.{Element}
use Rattle.opclass_multi.specs.Elements.{point, AreApart, count_of, holds}
use Rattle.opclass_multi.specs.Joined.{with_element, joined}
use Rattle.opclass_multi.specs.Reduced.{reduced}

-- the elements, and what they may count
pub record Kept : Type 0 where
  pub limit : ℕ
  pub elements : List Element

-- the limits of the class
pub record IsLimit (limit : ℕ) : Type 0 where
  pub least : 8 ≤ limit
  pub greatest : limit ≤ 256

-- a summary of that limit
pub record IsSummary (limit : ℕ) (s : Kept) : Type 0 where
  pub own_limit : s.limit ≡ limit
  pub apart : AreApart s.elements
  pub within : count_of s.elements ≤ limit

-- no element
abbrev pub nothing_yet : ℕ → Kept
nothing_yet limit = record { limit = limit; elements = [] }

-- the elements, reduced where they count too much
abbrev pub reduced_to : ℕ → List Element → Kept
reduced_to limit es = record { limit = limit; elements = reduced limit es }

-- nothing changes where an element holds the number, else it is put in its place as a point
abbrev pub with_number : Kept → ℤ → Kept
with_number s v = if holds s.elements v v then s else reduced_to s.limit (with_element (point v) s.elements)

-- the summary also of a value
abbrev pub with_value : Kept → Value → Kept
with_value s (Int v) = with_number s v
with_value s v = s

-- all elements of both, joined where they have a common number
abbrev pub united : Kept → Kept → Kept
united s other = reduced_to s.limit (joined s.elements other.elements)
