-- `=` of ranges as sets
use Rattle.std.specs.Prelude.{◌≡◌, ℤ}
use Rattle.block_model.specs.declared.value.Op.TheVariants.{Eq}
use Rattle.block_model.specs.Ranges.{Range, has_number}
use Rattle.model_laws.specs.NumbersOfRanges.{Means}

-- each number is in both or in neither
abbrev pub HaveSameNumbers : Range → Range → Type 0
HaveSameNumbers v k = (n : ℤ) → has_number v n ≡ has_number k n

-- `=` says so
abbrev pub EqualIsSameNumbers : Type 0
EqualIsSameNumbers = Means Eq HaveSameNumbers
