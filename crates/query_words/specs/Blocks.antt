-- the numbers of blocks, as they are written
use Rattle.std.specs.Prelude.{ℕ, ◌<◌, ◌^◌, nat_lt, Bool, ◌&&◌, List, length}
use Rattle.std.specs.List.{list_all}
use Rattle.block_model.specs.Names.{is_digit}
use Rattle.value_text.specs.Digits.{AreDigits, digits_from}

-- decimal digits below 4294967296
abbrev pub IsBlockWord : List ℕ → Type 0
IsBlockWord word = AreDigits word × (digits_from 0 word < 2 ^ 32)

-- whether they are
abbrev pub is_block : List ℕ → Bool
is_block word = nat_lt 0 (length word) && list_all is_digit word && nat_lt (digits_from 0 word) (2 ^ 32)

-- the number of the digits
abbrev pub block_of : List ℕ → ℕ
block_of word = digits_from 0 word
