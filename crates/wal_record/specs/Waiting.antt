-- changes that wait for the log
use Rattle.std.specs.Prelude.{ℕ, ◌+◌, List, [], ◌++◌}
use Rattle.wal_record.specs.Changes.{LoggedChange}
use Rattle.wal_record.specs.ChangeBytes.{bytes_of}

-- their bytes, one change behind the other, and how many they are
pub record Waiting : Type 0 where
  pub bytes : List ℕ
  pub count : ℕ

-- none
abbrev pub no_changes : Waiting
no_changes = record { bytes = []; count = 0 }

-- one change more, behind the others
abbrev pub with_change : Waiting → LoggedChange → Waiting
with_change waiting change = record { bytes = waiting.bytes ++ bytes_of change; count = waiting.count + 1 }
