-- bytes behind a gate that opens once they are sure
use Rattle.std.specs.Prelude.{◌≡◌, ◌⊎◌, ℕ, ◌+◌, List, [], ◌∷◌, ◌++◌, length, slice_index}
use Rattle.byte_fields.specs.Fields.{field_at}
use Rattle.disk_trait.specs.Torn.{Torn}
use Rattle.log_area.specs.Frames.{LogFrame, frame_bytes, open_gate}

-- a frame behind its gate, and a closed gate behind the frame
abbrev pub closed_frame : LogFrame → List ℕ
closed_frame frame = frame_bytes frame ++ 0 ∷ []

-- the bytes stand behind the gate, which is any byte; all else stays
pub record StandsBehind (gate : ℕ) (bytes old new : List ℕ) : Type 0 where
  pub torn : Torn gate (1 + length bytes) old new
  pub bytes_stand : field_at new (gate + 1) (length bytes) ≡ bytes

-- the bytes stand behind the gate, which is open; all else stays
pub record Published (gate : ℕ) (bytes old new : List ℕ) : Type 0 where
  pub behind : StandsBehind gate bytes old new
  pub opened : slice_index new gate ≡ open_gate

-- any bytes stand behind the gate, which stays; or the bytes stand there, and it is any byte
abbrev pub PublishedOrTorn : ℕ → List ℕ → List ℕ → List ℕ → Type 0
PublishedOrTorn gate bytes old new = Torn (gate + 1) (length bytes) old new ⊎ StandsBehind gate bytes old new
