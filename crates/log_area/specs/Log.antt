-- the log of a disk: two areas behind the control page, one of which byte 1 of that page chooses
use Rattle.std.specs.Prelude.{◌≡◌, ℕ, ◌+◌, ◌-◌, ◌*◌, ◌%◌, IsTrue, List, length, take, drop, slice_index}
use Rattle.block_model.specs.declared.limits.TheConstants.{PAGE_SIZE}
use Rattle.byte_fields.specs.Fields.{field_at}
use Rattle.disk_trait.specs.Told.{Told}
use Rattle.log_area.specs.Frames.{LogFrame, HoldsFrames, row_of}

-- the bytes of each area, the area byte, and how many bytes of the chosen area its frames take; the closed gate stands behind them
pub record Log : Type 0 where
  pub room : ℕ
  pub byte : ℕ
  pub used : ℕ

-- the byte of the disk at which the area begins that an area byte chooses: an even one area 0, an odd one area 1
unfoldable pub area_start : ℕ → ℕ → ℕ
area_start room byte = PAGE_SIZE + room * (byte % 2)

-- the byte of the disk behind both areas
abbrev pub areas_end : ℕ → ℕ
areas_end room = PAGE_SIZE + 2 * room

-- the byte of the disk at which the log's closed gate stands
abbrev pub gate_of : Log → ℕ
gate_of log = area_start log.room log.byte + log.used

-- the bytes of the area that an image chooses
abbrev pub chosen_area : ℕ → List ℕ → List ℕ
chosen_area room image = field_at image (area_start room (slice_index image 1)) room

-- the image chooses the log's area, which holds these frames, and the log goes on behind them
pub record Stands (log : Log) (frames : List LogFrame) (image : List ℕ) : Type 0 where
  pub side : slice_index image 1 % 2 ≡ log.byte % 2
  pub holds : HoldsFrames (chosen_area log.room image) frames
  pub used : length (row_of frames) ≡ log.used

-- one image has the other's bytes but for the areas and the area byte
pub record SameBeside (room : ℕ) (old new : List ℕ) : Type 0 where
  pub length : length new ≡ length old
  pub gate : take 1 new ≡ take 1 old
  pub control : take (PAGE_SIZE - 2) (drop 2 new) ≡ take (PAGE_SIZE - 2) (drop 2 old)
  pub pages : drop (areas_end room) new ≡ drop (areas_end room) old

-- an image comes by such a change from one that was there before
abbrev pub ComesBy : (List ℕ → List ℕ → Type 0) → Told → List ℕ → Type 0
ComesBy Change old image = (before : List ℕ) × IsTrue (old.now before) × Change before image
