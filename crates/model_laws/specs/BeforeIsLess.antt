-- `<<` of ranges as sets
use Rattle.std.specs.Prelude.{ℤ, ◌<ℤ◌}
use Rattle.block_model.specs.declared.value.Op.TheVariants.{Before}
use Rattle.block_model.specs.Ranges.{Range}
use Rattle.model_laws.specs.NumbersOfRanges.{Has, HasNumbers, Means}

-- neither is empty, and each number of the first is less than each of the second
pub record IsLess (v k : Range) : Type 0 where
  pub first : HasNumbers v
  pub second : HasNumbers k
  pub less : (n m : ℤ) → Has v n → Has k m → n <ℤ m

-- `<<` says so
abbrev pub BeforeIsLess : Type 0
BeforeIsLess = Means Before IsLess
