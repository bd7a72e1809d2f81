-- a disk in memory that keeps a record of its writes and syncs
use Rattle.std.specs.Prelude.{ℕ, true, List, [], length, take, drop}
use Rattle.disk_trait.specs.Told.{Told}
use Rattle.disk_trait.specs.Spliced.{spliced}
use Rattle.disk_trait.specs.IsCrashImage.{is_crash_image, was_crash_image}
use Rattle.disk_trait.specs.Recorded.{Recorded, with_write}
use Rattle.disk_trait.specs.Calls.{CallCounts, fresh}

-- what it holds, what happened on it, and its calls
pub record Recording : Type 0 where
  pub contents : List ℕ
  pub past : Recorded
  pub calls : CallCounts

-- a disk as it is made of bytes
abbrev pub made_of : List ℕ → Recording
made_of bytes = record {
  contents = bytes;
  past = record { events = []; calls_left = 0; bytes_left = 0 };
  calls = fresh [];
}

-- the disk after a write that was recorded
abbrev pub written : Recording → ℕ → List ℕ → Recording
written disk at bytes = record disk { contents = spliced disk.contents at bytes; past = with_write disk.past at (take (length bytes) (drop at disk.contents)) }

-- it tells its contents, and its images at every moment
abbrev pub told_by_memory : Recording → Told
told_by_memory disk = record {
  size = length disk.contents;
  tells_contents = true;
  contents = disk.contents;
  tells_images = true;
  now = λ c. is_crash_image disk.contents disk.past.events c;
  moment = length disk.past.events;
  since = λ t c. was_crash_image t disk.contents disk.past.events c;
  faults = disk.calls.faults;
}
