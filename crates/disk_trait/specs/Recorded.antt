-- the record of a disk's events, and its room
use Rattle.std.specs.Prelude.{◌≡◌, ◌⊎◌, ◌<◌, ◌≤◌, ◌+◌, ◌-◌, ℕ, List, ◌∷◌, length}
use Rattle.disk_trait.specs.Event.{Event, wrote, synced}

-- the events, the newest first; how many more have room, and how many bytes more that they replace
pub record Recorded : Type 0 where
  pub events : List Event
  pub calls_left : ℕ
  pub bytes_left : ℕ

-- with room for so many events more, and for so many bytes more that they replace
abbrev pub with_room : Recorded → ℕ → ℕ → Recorded
with_room past calls bytes = record past { calls_left = past.calls_left + calls; bytes_left = past.bytes_left + bytes }

-- there is room for an event that replaces so many bytes
pub record RecordHasRoom (past : Recorded) (count : ℕ) : Type 0 where
  pub call : 0 < past.calls_left
  pub bytes : count ≤ past.bytes_left

-- there is no room for it
abbrev pub RecordLacksRoom : Recorded → ℕ → Type 0
RecordLacksRoom past count = (past.calls_left ≡ 0) ⊎ (past.bytes_left < count)

-- the record after a write at an offset that replaced these bytes
abbrev pub with_write : Recorded → ℕ → List ℕ → Recorded
with_write past at replaced = record { events = wrote at replaced ∷ past.events; calls_left = past.calls_left - 1; bytes_left = past.bytes_left - length replaced }

-- the record after a sync
abbrev pub with_sync : Recorded → Recorded
with_sync past = record past { events = synced ∷ past.events; calls_left = past.calls_left - 1 }
