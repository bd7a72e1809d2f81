-- the texts of int8 ("Numeric Types"): an optional `-` and one or more digits
use Rattle.std.specs.Prelude.{◌≡◌, ℕ, ◌<◌, Bool, true, if◌then◌else◌, List, ◌∷◌, length, ℤ, pos, neg_ℤ, Option, None, Some}
use Rattle.std.specs.List.{list_all}
use Rattle.block_model.specs.Names.{is_digit}
use Rattle.block_model.specs.ValuesOfKind.{is_int8}
use Rattle.value_text.specs.Digits.{digits_from}

-- a number as it is written
pub record NumberText : Type 0 where
  pub negative : Bool
  pub digits : List ℕ

-- one or more digits, and no other byte
pub record IsNumber (n : NumberText) : Type 0 where
  pub some : 0 < length n.digits
  pub digits : list_all is_digit n.digits ≡ true

-- the bytes that write it
abbrev pub number_bytes : NumberText → List ℕ
number_bytes n = if n.negative then 45 ∷ n.digits else n.digits

-- the number that is written, however many digits it has
abbrev pub number_of : NumberText → ℤ
number_of n = if n.negative then neg_ℤ (pos (digits_from 0 n.digits)) else pos (digits_from 0 n.digits)

-- the number, where it is one of int8
abbrev pub int8_of : NumberText → Option ℤ
int8_of n = if is_int8 (number_of n) then Some (number_of n) else None
