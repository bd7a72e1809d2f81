-- the bytes of the tuple that a growth moves
use Rattle.std.specs.Prelude.{◌≡◌, ℕ, ◌≤◌, List, length, Option, None, Some}
use Rattle.block_model.specs.declared.limits.TheConstants.{PAGE_SIZE}
use Rattle.block_model.specs.declared.place.Spot.{Spot}
use Rattle.coverage.specs.Waiting.{IsNextTuple}
use Rattle.index_contents.specs.IndexContents.{IndexContents}
use Rattle.index_steps.specs.declared.tuples.FirstTuple.{FirstTuple}
use Rattle.index_steps.specs.FirstTuples.{IsOf}

-- there is room for a page, and no more bytes are held
pub record IsMoved (bytes : List ℕ) (size : ℕ) : Type 0 where
  pub room : length bytes ≡ PAGE_SIZE
  pub held : size ≤ PAGE_SIZE

-- the bytes are the first tuple of the block, of that range; where it has none there is none
abbrev pub IsFirstOf : IndexContents → (block : ℕ) → List ℕ → Option FirstTuple → Type 0
IsFirstOf c block bytes None = (x : Spot) → x.block ≡ block → c.bytes x ≡ None
IsFirstOf c block bytes (Some first) = IsNextTuple c.bytes block (record { block = block; slot = first.slot }) bytes × IsOf bytes first.range
