-- what an append does to a log
use Rattle.std.specs.Prelude.{◌≡◌, ◌⊎◌, ℕ, ◌+◌, ◌-◌, ◌≤◌, ◌<◌, List, [], ◌∷◌, ◌++◌, length, Result, Ok, Err}
use Rattle.block_model.specs.Causes.{Rose}
use Rattle.disk_trait.specs.Torn.{Torn}
use Rattle.log_area.specs.Frames.{LogFrame}
use Rattle.log_area.specs.Log.{Log, Stands, SameBeside, gate_of}
use Rattle.log_area.specs.declared.area.AppendFault.{AppendFault}
use Rattle.log_area.specs.declared.area.AppendFault.TheVariants.{NoRoom, Disk}

-- the log with one frame more
abbrev pub grown : Log → LogFrame → Log
grown log frame = record log { used = log.used + 7 + length frame.changes }

-- the bytes that so many bytes of changes need from the closed gate on, with the next gate; and those that are left there
abbrev pub needed : ℕ → ℕ
needed count = 7 + count + 1

abbrev pub left_in : Log → ℕ
left_in log = log.room - log.used

-- where the log stood with any frames, it stands with these and the new one; all bytes but the frame's stay
pub record Appended (log : Log) (frame : LogFrame) (old new : List ℕ) : Type 0 where
  pub within : Torn (gate_of log) (needed (length frame.changes)) old new
  pub beside : SameBeside log.room old new
  pub stands : (frames : List LogFrame) → Stands log frames old → Stands (grown log frame) (frames ++ frame ∷ []) new

-- where the log stood with any frames, it stands so still, or with these and the new one; all bytes but the frame's stay
pub record KeptOrAppended (log : Log) (frame : LogFrame) (old new : List ℕ) : Type 0 where
  pub within : Torn (gate_of log) (needed (length frame.changes)) old new
  pub beside : SameBeside log.room old new
  pub stands : (frames : List LogFrame) → Stands log frames old → Stands log frames new ⊎ Stands (grown log frame) (frames ++ frame ∷ []) new

-- by the answer: there is room, or not, with both numbers; a fault of the disk comes only where its count rose
abbrev pub AppendAnswers : {T : Type 0} → Log → ℕ → ℕ → ℕ → Result T AppendFault → Type 0
AppendAnswers log count before now (Ok done) = (needed count ≤ left_in log) × (before ≤ now)
AppendAnswers log count before now (Err (NoRoom need left)) = (left < need) × (need ≡ needed count) × (left ≡ left_in log) × (before ≡ now)
AppendAnswers log count before now (Err Disk) = (needed count ≤ left_in log) × Rose before now
