-- how a disk's moments go on by one call
use Rattle.std.specs.Prelude.{◌≡◌, ◌≤◌, ◌⊎◌, ℕ, List, IsTrue}
use Rattle.disk_trait.specs.Told.{Told}

-- what a crash may have left since an earlier moment is what it may have left before the call, or may leave now
pub record GoesOn (old new : Told) : Type 0 where
  pub size : new.size ≡ old.size
  pub tells_contents : new.tells_contents ≡ old.tells_contents
  pub tells_images : new.tells_images ≡ old.tells_images
  pub later : old.moment ≤ new.moment
  pub nothing_else : (t : ℕ) (c : List ℕ) → t ≤ old.moment → IsTrue (new.since t c) → IsTrue (old.since t c) ⊎ IsTrue (new.now c)
  pub nothing_less : (t : ℕ) (c : List ℕ) → t ≤ old.moment → IsTrue (old.since t c) → IsTrue (new.since t c)
