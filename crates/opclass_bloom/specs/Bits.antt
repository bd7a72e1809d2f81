-- summaries: of each position whether it is set
use Rattle.std.specs.Prelude.{◌≡◌, ℕ, Bool, true, false, ◌||◌, List, [], ◌∷◌, length, slice_index_or, slice_set, replicate, fold}
use Rattle.block_model.specs.declared.value.Value.{Value}
use Rattle.opclass_bloom.specs.Parameters.{Parameters}
use Rattle.opclass_bloom.specs.Positions.{positions}

-- as many positions as the class has bits
abbrev pub IsSummary : Parameters → List Bool → Type 0
IsSummary p s = length s ≡ p.bits

-- no position is set
abbrev pub nothing_set : Parameters → List Bool
nothing_set p = replicate p.bits false

-- the position is set
abbrev pub is_set : List Bool → ℕ → Bool
is_set s q = slice_index_or s q false

-- with a further position set
abbrev pub with_position : List Bool → ℕ → List Bool
with_position s q = slice_set s q true

-- with all positions of a value set
unfoldable pub with_value : Parameters → List Bool → Value → List Bool
with_value p s v = fold with_position s (positions p v)

-- with the positions of either set
abbrev pub united : List Bool → List Bool → List Bool
united [] t = t
united (b ∷ s) [] = b ∷ s
united (b ∷ s) (c ∷ t) = (b || c) ∷ united s t
