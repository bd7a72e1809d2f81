-- images by the gate of their control page
use Rattle.std.specs.Prelude.{◌≡◌, ◌⊎◌, ℕ, List, IsTrue, slice_index}
use Rattle.store_format.specs.declared.page.TheConstants.{OPEN}
use Rattle.disk_trait.specs.Told.{Told}
use Rattle.disk_trait.specs.TornImage.{IsTornImage}
use Rattle.store_format.specs.FreshStore.{IsClosed}

-- each image that a crash may leave now is no store
abbrev pub AreClosed : Told → Type 0
AreClosed disk = (image : List ℕ) → IsTrue (disk.now image) → IsClosed image

-- it was there before, or its gate is closed
abbrev pub WasOrIsClosed : Told → List ℕ → Type 0
WasOrIsClosed old image = IsTrue (old.now image) ⊎ IsClosed image

-- it is one from before, but that the gate is open
abbrev pub HasGate : Told → List ℕ → Type 0
HasGate old image = IsTornImage old 0 1 image × (slice_index image 0 ≡ OPEN)
