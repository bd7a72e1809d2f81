-- `@>` of ranges as sets
use Rattle.std.specs.Prelude.{ℤ}
use Rattle.block_model.specs.declared.value.Op.TheVariants.{Contains}
use Rattle.block_model.specs.Ranges.{Range}
use Rattle.model_laws.specs.NumbersOfRanges.{Has, Means}

-- each number of the second is in the first
abbrev pub IsSuperset : Range → Range → Type 0
IsSuperset v k = (n : ℤ) → Has k n → Has v n

-- `@>` says so
abbrev pub ContainsIsSuperset : Type 0
ContainsIsSuperset = Means Contains IsSuperset
