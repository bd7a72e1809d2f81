-- an area opens in one way
use Rattle.std.specs.Prelude.{◌≡◌, ℕ, List}
use Rattle.log_area.specs.Frames.{LogFrame, HoldsFrames, HasFrameThatPasses}

-- it holds one list of frames at most, or has a frame that passes it at one offset at most, and never both
pub record OpensInOneWay (area : List ℕ) : Type 0 where
  pub frames : (some others : List LogFrame) → HoldsFrames area some → HoldsFrames area others → some ≡ others
  pub offset : (one other : ℕ) → HasFrameThatPasses area one → HasFrameThatPasses area other → one ≡ other
  pub apart : (frames : List LogFrame) (offset : ℕ) → HoldsFrames area frames → HasFrameThatPasses area offset → ⊥
