-- a disk that never fails
use Rattle.std.specs.Prelude.{ℕ, true, false, List, length}
use Rattle.disk_trait.specs.Told.{Told}

-- it tells its contents and no images, and its count is always 0
abbrev pub told_by_steady : List ℕ → Told
told_by_steady bytes =
    record { size = length bytes; tells_contents = true; contents = bytes; tells_images = false; now = λ c. false; moment = 0; since = λ t c. false; faults = 0 }
