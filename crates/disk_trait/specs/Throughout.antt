-- what holds of the images at every moment of a run of calls
use Rattle.std.specs.Prelude.{◌≡◌, ◌≤◌, ◌⊎◌, ℕ, List, IsTrue}
use Rattle.disk_trait.specs.Told.{Told}

-- whenever a crash comes from the old moment to the new one, what it leaves has P; `earlier` is for a run that began before
pub record Throughout (old new : Told) (P : List ℕ → Type 0) : Type 0 where
  pub size : new.size ≡ old.size
  pub tells_contents : new.tells_contents ≡ old.tells_contents
  pub tells_images : new.tells_images ≡ old.tells_images
  pub later : old.moment ≤ new.moment
  pub each : (c : List ℕ) → IsTrue (new.since old.moment c) → P c
  pub earlier : (t : ℕ) (c : List ℕ) → t ≤ old.moment → IsTrue (new.since t c) → IsTrue (old.since t c) ⊎ P c
