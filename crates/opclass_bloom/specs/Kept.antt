-- how a summary is kept, in bytes, and a class
use Rattle.std.specs.Prelude.{ℕ, ◌==◌, Bool, List, [], ◌∷◌, ◌++◌, map}
use Rattle.std.specs.Int.{bit_at}
use Rattle.std.specs.List.{range_with_len}
use Rattle.opclass_bloom.specs.Parameters.{Parameters}
use Rattle.opclass_bloom.specs.declared.class.Bloom.TheInside.{Inside}

-- the bits of a byte, the lowest first
abbrev pub bits_of_byte : ℕ → List Bool
bits_of_byte byte = map (λ i. bit_at byte i == 1) (range_with_len 0 8)

abbrev pub bits_of : List ℕ → List Bool
bits_of [] = []
bits_of (byte ∷ bytes) = bits_of_byte byte ++ bits_of bytes

abbrev pub parameters_of : Inside → Parameters
parameters_of a = record { bits = a.bits; hashes = a.hashes }

abbrev pub bloom_of : Parameters → Inside
bloom_of p = record { bits = p.bits; hashes = p.hashes }
