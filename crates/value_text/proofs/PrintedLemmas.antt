use Rattle.std.proofs.Common.{◌≡◌, ◌≢◌, ◌++◌, codes, refl}
use Rattle.block_model.specs.Ranges.{Range, Empty, Between, lower_of, upper_of}
use Rattle.value_text.specs.CanonicalTexts.{range_text, lower_text, upper_text}

-- a range that isn't empty is printed by its sides
pub printed_by_sides : (r : Range) → r ≢ Empty → range_text r ≡ lower_text (lower_of r) ++ codes "," ++ upper_text (upper_of r)
printed_by_sides Empty h = absurd (h refl)
printed_by_sides (Between l u) h = refl
