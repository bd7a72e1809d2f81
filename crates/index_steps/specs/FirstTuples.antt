-- the first tuple of a page
use Rattle.std.specs.Prelude.{◌≡◌, ℕ, ◌<◌, List, length, take, Option, None, Some}
use Rattle.block_model.specs.declared.place.Spot.{Spot}
use Rattle.coverage.specs.Waiting.{IsNextTuple}
use Rattle.index_contents.specs.IndexContents.{IndexContents, tuple_on}
use Rattle.range_store.specs.Tuples.{IsOfRange}
use Rattle.index_steps.specs.declared.tuples.FirstTuple.{FirstTuple}

-- fewer than four bytes are of no range
abbrev pub IsOf : List ℕ → Option ℕ → Type 0
IsOf bytes None = length bytes < 4
IsOf bytes (Some range) = IsOfRange bytes range

-- the tuple in the lowest slot of the block that has one, with its range, and its bytes at the front of these; none where no slot has one
abbrev pub IsFirst : IndexContents → (block : ℕ) → List ℕ → Option FirstTuple → Type 0
IsFirst c block bytes None = (x : Spot) → x.block ≡ block → c.bytes x ≡ None
IsFirst c block bytes (Some first) = IsNextTuple c.bytes block (record { block = block; slot = first.slot }) (take first.size bytes) × IsOf (take first.size bytes) first.range

-- the same of one page
abbrev pub IsFirstOn : (page bytes : List ℕ) → Option FirstTuple → Type 0
IsFirstOn page bytes None = (slot : ℕ) → tuple_on page slot ≡ None
IsFirstOn page bytes (Some first) = (tuple_on page first.slot ≡ Some (take first.size bytes)) × ((slot : ℕ) → slot < first.slot → tuple_on page slot ≡ None)
    × IsOf (take first.size bytes) first.range
