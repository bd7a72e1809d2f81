-- a disk on which no write is pending
use Rattle.std.specs.Prelude.{◌≡◌, ℕ, List, IsTrue}
use Rattle.disk_trait.specs.Told.{Told}

-- a crash now leaves the contents and nothing else
abbrev pub IsStable : Told → Type 0
IsStable disk = (c : List ℕ) → IsTrue (disk.now c) → c ≡ disk.contents
