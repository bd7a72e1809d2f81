-- what the answers of a Stepper add to its two books
use Rattle.std.specs.Prelude.{ℕ, Option, Some, None}
use Rattle.io_traits.specs.declared.stepper.Turn.{Turn}
use Rattle.io_traits.specs.declared.stepper.Turn.TheVariants.{Moved, Done, Blocked, Ended, Stale}

-- one where a line was answered
abbrev pub count_done : Turn → ℕ
count_done Moved = 0
count_done Done = 1
count_done Blocked = 0
count_done Ended = 0
count_done Stale = 0

-- one where the answer is that no more lines are answered
abbrev pub count_ended : Turn → ℕ
count_ended Moved = 0
count_ended Done = 0
count_ended Blocked = 0
count_ended Ended = 1
count_ended Stale = 0

-- one where nothing was given
abbrev pub count_none : {T : Type 0} → Option T → ℕ
count_none None = 1
count_none (Some _) = 0
