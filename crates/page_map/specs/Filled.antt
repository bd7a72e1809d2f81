-- lists that are filled up to a length
use Rattle.std.specs.Prelude.{ℕ, ◌-◌, List, ◌++◌, length, replicate}

-- the list, and behind it the same element up to that length
unfoldable pub filled : {X : Type 0} → X → ℕ → List X → List X
filled rest count xs = xs ++ replicate (count - length xs) rest
