-- what is true of every log
use Rattle.std.specs.Prelude.{◌+◌, ◌≤◌, ◌<◌, ◌^◌}
use Rattle.log_area.specs.Log.{Log}

-- the closed gate stands in its area
pub record IsLog (log : Log) : Type 0 where
  pub closed : log.used + 1 ≤ log.room
  pub small : log.room ≤ 2 ^ 25
  pub byte : log.byte < 256
