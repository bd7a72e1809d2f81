-- the positions of a value
use Rattle.std.specs.Prelude.{ℕ, ◌+◌, ◌*◌, ◌/◌, ◌%◌, ◌^◌, bit_or, List, [], ◌∷◌, map, Option, None, Some}
use Rattle.std.specs.Int.{w64, cast_unsigned}
use Rattle.std.specs.List.{range_with_len}
use Rattle.block_model.specs.declared.value.Value.{Value}
use Rattle.block_model.specs.declared.value.Value.TheVariants.{Int, Net}
use Rattle.opclass_bloom.specs.Mixing.{mix, with_words}
use Rattle.opclass_bloom.specs.Parameters.{Parameters}

-- an int8 modulo 2^64; of an address its family and prefix, and its 128 bits as two words; other values have no words
abbrev pub words_of : Value → List ℕ
words_of (Int v) = cast_unsigned w64 v ∷ []
words_of (Net a) = (a.family * 256 + a.prefix) ∷ a.address / 2 ^ 64 ∷ a.address % 2 ^ 64 ∷ []
words_of v = []

-- the first word is mixed, and each further one into the hash of those before it
abbrev pub hash_of : List ℕ → Option ℕ
hash_of [] = None
hash_of (word ∷ words) = Some (with_words (mix word) words)

-- the low 32 bits of a hash, and the high ones with the lowest of them set
abbrev pub first_hash : ℕ → ℕ
first_hash hash = hash % 2 ^ 32

abbrev pub second_hash : ℕ → ℕ
second_hash hash = bit_or (hash / 2 ^ 32) 1

-- position i, over whole numbers
unfoldable pub position : ℕ → ℕ → ℕ → ℕ
position bits hash i = (first_hash hash + i * second_hash hash) % bits

-- as many positions as the class has hashes
abbrev pub positions_by : Parameters → Option ℕ → List ℕ
positions_by p None = []
positions_by p (Some hash) = map (position p.bits hash) (range_with_len 0 p.hashes)

unfoldable pub positions : Parameters → Value → List ℕ
positions p v = positions_by p (hash_of (words_of v))
