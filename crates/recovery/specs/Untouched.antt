-- a call that wrote nothing, and one that wrote to pages alone
use Rattle.std.specs.Prelude.{◌≡◌, IsTrue, List, ℕ, take}
use Rattle.block_model.specs.declared.limits.TheConstants.{PAGE_SIZE}
use Rattle.disk_trait.specs.Told.{Told}
use Rattle.disk_trait.specs.Throughout.{Throughout}
use Rattle.log_area.specs.Log.{ComesBy}
use Rattle.store_format.specs.ControlPage.{HasControl}
use Rattle.store_layout.specs.DiskLayout.{DiskLayout, first_offset}

-- the contents are the same, and what a crash leaves at any moment since it might have left before
pub record IsUntouched (old new : Told) : Type 0 where
  pub contents : new.contents ≡ old.contents
  pub moments : Throughout old new (λ image. IsTrue (old.now image))

-- the image has the control page and the areas of the log that the one before has, where that is a store's
abbrev pub HasFrontOf : List ℕ → List ℕ → Type 0
HasFrontOf before image = (layout : DiskLayout) → HasControl layout (take PAGE_SIZE before) → take (first_offset layout) image ≡ take (first_offset layout) before

-- No byte of the control page and of the areas of the log was written to: the contents have them still, and what a crash leaves at any moment since has
-- those of what it might have left before.
pub record KeepsFront (old new : Told) : Type 0 where
  pub contents : IsTrue old.tells_contents → HasFrontOf old.contents new.contents
  pub moments : Throughout old new (ComesBy HasFrontOf old)
