-- what a Stepper in memory keeps of its answers
use Rattle.std.specs.Prelude.{ℕ, Option}

-- the totals of both books, and the status where an Ended was answered
pub record Books : Type 0 where
  pub answers : ℕ
  pub ends : ℕ
  pub status : Option ℕ
