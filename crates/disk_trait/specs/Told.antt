-- what a disk tells of itself
use Rattle.std.specs.Prelude.{ℕ, Bool, List}

-- Where a disk tells its contents, they are what a read gives. Where it tells its images, two tests say which bytes a crash
-- may leave: a crash now, or one at some moment from a given one on. What isn't told has no meaning.
pub record Told : Type 0 where
  pub size : ℕ
  pub tells_contents : Bool
  pub contents : List ℕ
  pub tells_images : Bool
  pub now : List ℕ → Bool
  pub moment : ℕ
  pub since : ℕ → List ℕ → Bool
  pub faults : ℕ
