-- a disk over a file
use Rattle.std.specs.Prelude.{ℕ, false, []}
use Rattle.disk_trait.specs.Told.{Told}

-- it tells its size and its count of faults, and nothing of what it holds
abbrev pub told_by_file : ℕ → ℕ → Told
told_by_file size faults =
    record { size = size; tells_contents = false; contents = []; tells_images = false; now = λ c. false; moment = 0; since = λ t c. false; faults = faults }
