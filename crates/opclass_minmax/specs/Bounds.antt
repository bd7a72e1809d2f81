-- the summary of int8 values: their least and their greatest
use Rattle.std.specs.Prelude.{ℤ, ◌≤ℤ◌, FitsSigned}
use Rattle.std.specs.Int.{w64, int_min, int_max}
use Rattle.block_model.specs.declared.value.Value.{Value}
use Rattle.block_model.specs.declared.value.Value.TheVariants.{Int}

-- nothing yet, or the least and the greatest value
pub data Bounds : Type 0 where
  NothingYet : Bounds
  Between : ℤ → ℤ → Bounds

-- both are of int8, and the least is not above the greatest
pub record IsOrdered (least greatest : ℤ) : Type 0 where
  pub least_fits : FitsSigned w64 least
  pub greatest_fits : FitsSigned w64 greatest
  pub in_order : least ≤ℤ greatest

abbrev pub IsSummary : Bounds → Type 0
IsSummary NothingYet = Unit {0}
IsSummary (Between least greatest) = IsOrdered least greatest

-- the bounds also of two further values, the first of which is not above the second
abbrev pub widened : Bounds → ℤ → ℤ → Bounds
widened NothingYet low high = Between low high
widened (Between least greatest) low high = Between (int_min least low) (int_max greatest high)

-- the bounds also of a value
abbrev pub with_value : Bounds → Value → Bounds
with_value s (Int v) = widened s v v
with_value s v = s

-- the bounds of the values of both
abbrev pub united : Bounds → Bounds → Bounds
united s NothingYet = s
united s (Between low high) = widened s low high
