-- images that a write cut short
use Rattle.std.specs.Prelude.{◌≡◌, ℕ, List, IsTrue, take, drop}
use Rattle.disk_trait.specs.Told.{Told}
use Rattle.disk_trait.specs.Torn.{Torn}

-- an image from before, with any n bytes from an offset on
abbrev pub IsTornImage : Told → ℕ → ℕ → List ℕ → Type 0
IsTornImage old at n image = (before : List ℕ) × IsTrue (old.now before) × Torn at n before image

-- no write is pending in the n bytes from an offset on
abbrev pub IsStableIn : ℕ → ℕ → Told → Type 0
IsStableIn from n disk = (image : List ℕ) → IsTrue (disk.now image) → take n (drop from image) ≡ take n (drop from disk.contents)
