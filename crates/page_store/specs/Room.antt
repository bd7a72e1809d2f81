-- the room that a change needs in the buffer and in the log
use Rattle.std.specs.Prelude.{◌≡◌, ◌⊎◌, ℕ, ◌+◌, ◌<◌, ◌≤◌, ◌||◌, Bool, true, false, length, if◌then◌else◌}
use Rattle.wal_record.specs.declared.buffer.TheConstants.{BUFFER_SIZE}
use Rattle.wal_record.specs.Waiting.{Waiting, no_changes}
use Rattle.page_store.specs.declared.logged.TheConstants.{FULL_PAGE_BYTES, MOST_BYTES}
use Rattle.page_store.specs.LoggedState.{LoggedState}
use Rattle.recovery.specs.Appended.{left_in, needed}
use Rattle.recovery.specs.Log.{Log}
use Rattle.wal_record.specs.Changes.{LoggedChange, FullPage, PageStart, HasSizes}
use Rattle.wal_record.specs.ChangeBytes.{bytes_of}

-- the change makes the whole page, whatever stood there
abbrev pub is_anew : LoggedChange → Bool
is_anew (FullPage place bytes) = true
is_anew (PageStart place kind) = true
is_anew change = false

-- how many bytes the log takes for a change of so many bytes: those of the page come first, where the page isn't begun
abbrev pub bytes_with : Bool → ℕ → ℕ
bytes_with begun size = (if begun then 0 else FULL_PAGE_BYTES) + size

abbrev pub bytes_for : Bool → LoggedChange → ℕ
bytes_for begun change = bytes_with (begun || is_anew change) (length (bytes_of change))

-- so many bytes more fit the buffer, and its area of the log as one frame
pub record HasRoom (log : Log) (waiting : Waiting) (more : ℕ) : Type 0 where
  pub buffer : length waiting.bytes + more ≤ BUFFER_SIZE
  pub area : needed (length waiting.bytes + more) ≤ left_in log

-- a change that can be logged: its bytes tell its sizes, and are at most twice a page
pub record IsLoggable (change : LoggedChange) : Type 0 where
  pub sizes : HasSizes change
  pub few : length (bytes_of change) ≤ MOST_BYTES

-- pages that wait for at most this number wait for nothing that isn't durable
abbrev pub IsDurable : Log → Waiting → ℕ → Type 0
IsDurable log waiting number = ((number ≡ log.used) × (0 < length waiting.bytes)) ⊎ ((waiting ≡ no_changes) × (number ≡ log.used + 1))

-- nothing was done, and so many bytes more fit the area
abbrev pub HasLogRoom : {D : Type 0} → ℕ → LoggedState D → LoggedState D → Type 0
HasLogRoom need old new = (new ≡ old) × (needed (length new.waiting.bytes + need) ≤ left_in new.log)

-- nothing waits, and the log is empty
abbrev pub IsEmptied : {D : Type 0} → LoggedState D → Type 0
IsEmptied now = (now.waiting ≡ no_changes) × (now.log.used ≡ 0)
