-- the frames of a log area: a gate, the length of the changes in 4 bytes, their count in 2, the changes; the next gate follows
use Rattle.std.specs.Prelude.{◌≡◌, ◌≢◌, ℕ, ◌+◌, ◌<◌, ◌≤◌, ◌^◌, List, [], ◌∷◌, ◌++◌, length}
use Rattle.std.specs.Int.{bytes_high_first}
use Rattle.std.specs.List.{AllByRecursion}
use Rattle.byte_fields.specs.Fields.{field_at, number_of}

-- some changes, and how many they are
pub record LogFrame : Type 0 where
  pub changes : List ℕ
  pub count : ℕ

-- its numbers fit their fields
pub record FitsFields (frame : LogFrame) : Type 0 where
  pub length : length frame.changes < 256 ^ 4
  pub count : frame.count < 256 ^ 2

-- the gate of a frame that is valid; any other byte is a closed gate
abbrev pub open_gate : ℕ
open_gate = 1

-- the length of the changes and their count, as bytes
abbrev pub numbers_of : ℕ → ℕ → List ℕ
numbers_of size count = bytes_high_first 4 size ++ bytes_high_first 2 count

-- what stands behind a frame's gate
unfoldable pub frame_bytes : LogFrame → List ℕ
frame_bytes frame = numbers_of (length frame.changes) frame.count ++ frame.changes

-- opened frames, one behind the other
abbrev pub row_of : List LogFrame → List ℕ
row_of [] = []
row_of (frame ∷ frames) = open_gate ∷ (frame_bytes frame ++ row_of frames)

-- an area holds these frames, and behind them a closed gate
pub record HoldsFrames (area : List ℕ) (frames : List LogFrame) : Type 0 where
  pub gate : ℕ
  pub rest : List ℕ
  pub bytes : area ≡ row_of frames ++ gate ∷ rest
  pub closed : gate ≢ open_gate
  pub fields : AllByRecursion FitsFields frames

-- the length that the bytes behind a gate name for their changes
unfoldable pub length_at : List ℕ → ℕ
length_at bytes = number_of (field_at bytes 0 4)

-- behind some frames an area holds an open gate whose frame leaves no byte in the area for the next gate; where that gate stands
pub record HasFrameThatPasses (area : List ℕ) (offset : ℕ) : Type 0 where
  pub frames : List LogFrame
  pub rest : List ℕ
  pub bytes : area ≡ row_of frames ++ open_gate ∷ rest
  pub stands : length (row_of frames) ≡ offset
  pub passes : length rest ≤ 6 + length_at rest
  pub fields : AllByRecursion FitsFields frames
