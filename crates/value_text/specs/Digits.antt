-- decimal digits and their number
use Rattle.std.specs.Prelude.{◌≡◌, ℕ, ◌+◌, ◌-◌, ◌*◌, ◌<◌, true, List, [], ◌∷◌, length}
use Rattle.std.specs.List.{list_all}
use Rattle.block_model.specs.Names.{is_digit}

-- one or more digits, and no other byte
pub record AreDigits (ds : List ℕ) : Type 0 where
  pub some : 0 < length ds
  pub digits : list_all is_digit ds ≡ true

-- the number of the digits behind n's
abbrev pub digits_from : ℕ → List ℕ → ℕ
digits_from n [] = n
digits_from n (c ∷ cs) = digits_from (10 * n + (c - 48)) cs
