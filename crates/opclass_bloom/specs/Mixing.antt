-- how words are mixed into a hash (the last steps of the generator SplitMix64)
use Rattle.std.specs.Prelude.{ℕ, ◌*◌, ◌/◌, ◌%◌, ◌^◌, bit_xor, List, fold}

-- a number and its bits from the n-th on, by exclusive or
abbrev pub folded : ℕ → ℕ → ℕ
folded z n = bit_xor z (z / 2 ^ n)

-- a product modulo 2^64
abbrev pub product : ℕ → ℕ → ℕ
product z factor = z * factor % 2 ^ 64

-- the number, folded at 30, at 27 and at 31 bits, with a product between each two
unfoldable pub mix : ℕ → ℕ
mix z = folded (product (folded (product (folded z 30) 0xBF58476D1CE4E5B9) 27) 0x94D049BB133111EB) 31

-- each word is mixed into the hash of those before it
abbrev pub with_words : ℕ → List ℕ → ℕ
with_words hash words = fold (λ h w. mix (bit_xor h w)) hash words
