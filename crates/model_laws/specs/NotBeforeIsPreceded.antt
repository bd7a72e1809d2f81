-- `&>` of ranges as sets
use Rattle.std.specs.Prelude.{ℤ, ◌≤ℤ◌}
use Rattle.block_model.specs.declared.value.Op.TheVariants.{NotBefore}
use Rattle.block_model.specs.Ranges.{Range}
use Rattle.model_laws.specs.NumbersOfRanges.{Has, HasNumbers, Means}

-- neither is empty, and at or before each number of the first there is one of the second
pub record IsPreceded (v k : Range) : Type 0 where
  pub first : HasNumbers v
  pub second : HasNumbers k
  pub preceded : (n : ℤ) → Has v n → (m : ℤ) × (m ≤ℤ n) × Has k m

-- `&>` says so
abbrev pub NotBeforeIsPreceded : Type 0
NotBeforeIsPreceded = Means NotBefore IsPreceded
