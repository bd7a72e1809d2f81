-- the frames that were read from an area
use Rattle.std.specs.Prelude.{ℕ, ◌+◌, ◌≤◌, List, map, length, drop}
use Rattle.byte_fields.specs.Fields.{field_at, number_of}
use Rattle.log_area.specs.Frames.{LogFrame, length_at}

-- the frame behind a gate
unfoldable pub frame_at : List ℕ → LogFrame
frame_at bytes = record { changes = field_at bytes 6 (length_at bytes); count = number_of (field_at bytes 4 2) }

-- the frame whose gate stands at an offset of the bytes
abbrev pub frame_in : List ℕ → ℕ → LogFrame
frame_in bytes gate = frame_at (drop (gate + 1) bytes)

abbrev pub frames_in : List ℕ → List ℕ → List LogFrame
frames_in bytes gates = map (frame_in bytes) gates

-- the whole frame stands there
abbrev pub IsWhole : List ℕ → ℕ → Type 0
IsWhole bytes gate = gate + 7 + length_at (drop (gate + 1) bytes) ≤ length bytes
