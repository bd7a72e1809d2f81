-- what a switch does to a log
use Rattle.std.specs.Prelude.{◌≡◌, ◌⊎◌, ◌+◌, ◌%◌, List, ℕ, [], slice_index}
use Rattle.log_area.specs.Frames.{LogFrame}
use Rattle.log_area.specs.Log.{Log, Stands, SameBeside}

-- the log in its other area, without frames
abbrev pub switched : Log → Log
switched log = record log { byte = (log.byte + 1) % 256; used = 0 }

-- the log stands in its other area without frames, which the next area byte chooses; all else stays
pub record Switched (log : Log) (old new : List ℕ) : Type 0 where
  pub beside : SameBeside log.room old new
  pub byte : slice_index new 1 ≡ (log.byte + 1) % 256
  pub stands : Stands (switched log) [] new

-- where the log stood with any frames, it stands so still, or in its other area without frames; all else stays
pub record KeptOrSwitched (log : Log) (old new : List ℕ) : Type 0 where
  pub beside : SameBeside log.room old new
  pub stands : (frames : List LogFrame) → Stands log frames old → Stands log frames new ⊎ Stands (switched log) [] new
