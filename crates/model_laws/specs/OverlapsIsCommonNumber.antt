-- `&&` of ranges as sets
use Rattle.std.specs.Prelude.{ℤ}
use Rattle.block_model.specs.declared.value.Op.TheVariants.{Overlaps}
use Rattle.block_model.specs.Ranges.{Range}
use Rattle.model_laws.specs.NumbersOfRanges.{Has, Means}

-- some number is in both
abbrev pub HaveCommonNumber : Range → Range → Type 0
HaveCommonNumber v k = (n : ℤ) × Has v n × Has k n

-- `&&` says so
abbrev pub OverlapsIsCommonNumber : Type 0
OverlapsIsCommonNumber = Means Overlaps HaveCommonNumber
