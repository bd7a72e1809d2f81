-- `&<` of ranges as sets
use Rattle.std.specs.Prelude.{ℤ, ◌≤ℤ◌}
use Rattle.block_model.specs.declared.value.Op.TheVariants.{NotAfter}
use Rattle.block_model.specs.Ranges.{Range}
use Rattle.model_laws.specs.NumbersOfRanges.{Has, HasNumbers, Means}

-- neither is empty, and at or after each number of the first there is one of the second
pub record IsReached (v k : Range) : Type 0 where
  pub first : HasNumbers v
  pub second : HasNumbers k
  pub reached : (n : ℤ) → Has v n → (m : ℤ) × (n ≤ℤ m) × Has k m

-- `&<` says so
abbrev pub NotAfterIsReached : Type 0
NotAfterIsReached = Means NotAfter IsReached
