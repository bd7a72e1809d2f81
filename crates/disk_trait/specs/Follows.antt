-- what a call makes of the images
use Rattle.std.specs.Prelude.{ℕ, List, IsTrue}
use Rattle.disk_trait.specs.Told.{Told}

-- each image after the call comes by such a change from an image before it
abbrev pub Follows : (List ℕ → List ℕ → Type 0) → Told → Told → Type 0
Follows Change old new = (c : List ℕ) → IsTrue (new.now c) → (d : List ℕ) × IsTrue (old.now d) × Change d c
