-- `-|-` of ranges as sets
use Rattle.std.specs.Prelude.{◌⊎◌, ℤ, pos, ◌-ℤ◌}
use Rattle.block_model.specs.declared.value.Op.TheVariants.{Adjacent}
use Rattle.block_model.specs.Ranges.{Range}
use Rattle.model_laws.specs.NumbersOfRanges.{Has, Means}
use Rattle.model_laws.specs.OverlapsIsCommonNumber.{HaveCommonNumber}

-- a number is in the second, and the one before it in the first
abbrev pub GoesOverInto : Range → Range → Type 0
GoesOverInto v k = (n : ℤ) × Has v (n -ℤ pos 1) × Has k n

-- no number is in both, and one of them goes over into the other with no gap
pub record AreNeighbours (v k : Range) : Type 0 where
  pub apart : ¬ (HaveCommonNumber v k)
  pub no_gap : GoesOverInto v k ⊎ GoesOverInto k v

-- `-|-` says so
abbrev pub AdjacentIsNeighbours : Type 0
AdjacentIsNeighbours = Means Adjacent AreNeighbours
