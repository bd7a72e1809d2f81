-- the bytes of a summary
use Rattle.std.specs.Prelude.{ℕ, ◌+◌, ◌*◌, ◌/◌, Bool, if◌then◌else◌, List, [], ◌∷◌}
use Rattle.opclass_bloom.specs.Parameters.{Parameters}

-- bits as a number, the lowest first
abbrev pub number_of : List Bool → ℕ
number_of [] = 0
number_of (b ∷ bits) = (if b then 1 else 0) + 2 * number_of bits

-- eight positions in turn are a byte
abbrev pub bytes_of : List Bool → List ℕ
bytes_of (b0 ∷ b1 ∷ b2 ∷ b3 ∷ b4 ∷ b5 ∷ b6 ∷ b7 ∷ s) = number_of (b0 ∷ b1 ∷ b2 ∷ b3 ∷ b4 ∷ b5 ∷ b6 ∷ b7 ∷ []) ∷ bytes_of s
bytes_of s = []

-- how many bytes each summary has
abbrev pub size_of : Parameters → ℕ
size_of p = p.bits / 8
