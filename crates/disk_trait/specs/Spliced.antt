-- bytes put over others
use Rattle.std.specs.Prelude.{ℕ, ◌+◌, List, ◌++◌, length, take, drop}

-- the old bytes, with these in their place from an offset on
abbrev pub spliced : List ℕ → ℕ → List ℕ → List ℕ
spliced old at bytes = take at old ++ bytes ++ drop (at + length bytes) old
