-- a frame of a log that isn't of its form
use Rattle.std.specs.Prelude.{◌≡◌, ℕ, ◌+◌, List, ◌∷◌, ◌++◌, length}
use Rattle.store_layout.specs.DiskLayout.{DiskLayout}
use Rattle.log_area.specs.Frames.{LogFrame, row_of}
use Rattle.wal_record.specs.Changes.{LoggedChange}
use Rattle.recovery.specs.LoggedChanges.{AreChangesOf, AreLogged}
use Rattle.recovery.specs.Redoing.{CanBeRedone}

-- Behind these changes of an image's log the frame isn't of its form: no changes of exactly its length and count stand in it that
-- are of pages of the layout, make each page whole first, and fit.
abbrev pub IsAmiss : DiskLayout → List ℕ → List LoggedChange → LogFrame → Type 0
IsAmiss layout image done frame = (own : List LoggedChange) → AreChangesOf frame.changes own → frame.count ≡ length own → CanBeRedone layout image (done ++ own) → ⊥

-- one of the frames of an area isn't of its form, and all in front of it are; its gate is this byte of the disk
pub record HasFrameAmiss (layout : DiskLayout) (image : List ℕ) (area : ℕ) (frames : List LogFrame) (at : ℕ) : Type 0 where
  pub before : List LogFrame
  pub frame : LogFrame
  pub behind : List LogFrame
  pub done : List LoggedChange
  pub stands : frames ≡ before ++ frame ∷ behind
  pub gate : at ≡ area + length (row_of before)
  pub logged : AreLogged before done
  pub fit : CanBeRedone layout image done
  pub amiss : IsAmiss layout image done frame
