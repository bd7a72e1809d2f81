-- what the indexes of a store show, apart from pages
use Rattle.std.specs.Prelude.{ℕ, List, Option}

-- the bytes of the tuple of each range of each index, by their numbers, if the range has one; and how many blocks each table has
pub record Shown : Type 0 where
  pub tuple : ℕ → ℕ → Option (List ℕ)
  pub extent : ℕ → ℕ
