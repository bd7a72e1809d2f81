-- a mixture of old and new bytes
use Rattle.std.specs.Prelude.{◌≡◌, ◌==◌, ◌<◌, ◌/◌, ◌%◌, ℕ, List, length, slice_index, if◌then◌else◌}

-- stripes of so many bytes, of the old list and of the new one in turn
pub record IsStriped (width : ℕ) (old new mixed : List ℕ) : Type 0 where
  pub long : length mixed ≡ length new
  pub bytes : (k : ℕ) → k < length new → slice_index mixed k ≡ (if (k / width) % 2 == 0 then slice_index old k else slice_index new k)
