-- ranges as the sets of their numbers
use Rattle.std.specs.Prelude.{◌≡◌, ◌↔◌, ℤ, true}
use Rattle.block_model.specs.declared.value.Value.TheVariants.{Span}
use Rattle.block_model.specs.declared.value.Op.{Op}
use Rattle.block_model.specs.Matches.{matches}
use Rattle.block_model.specs.Ranges.{Range, has_number, IsRange}

-- the number is in the range
abbrev pub Has : Range → ℤ → Type 0
Has r n = has_number r n ≡ true

-- some number is in the range
abbrev pub HasNumbers : Range → Type 0
HasNumbers r = (n : ℤ) × Has r n

-- the operator holds of two ranges exactly where this does
abbrev pub Means : Op → (Range → Range → Type 0) → Type 0
Means op P = (v k : Range) → IsRange v → IsRange k → (matches (Span v) op (Span k) ≡ true) ↔ P v k
