-- what a worker's share of the second book holds
use Rattle.std.specs.Prelude.{ℕ, Bool, true, false}

-- one where it was answered Ended, and else nothing
abbrev pub one_if : Bool → ℕ
one_if false = 0
one_if true = 1
