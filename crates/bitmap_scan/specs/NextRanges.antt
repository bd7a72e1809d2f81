-- which range a scan judges next, and which blocks a judged one leaves out
use Rattle.std.specs.Prelude.{◌≡◌, ◌≢◌, ℕ, ◌+◌, ◌*◌, ◌/◌, ◌<◌, ◌≤◌, nat_lt, Bool, ◌&&◌, false, List, length, if◌then◌else◌}
use Rattle.bitmap_scan.specs.ScanHands.{ScannedIndex, is_candidate, scanned_at}
use Rattle.bitmap_scan.specs.declared.stage.Stage.{Stage}
use Rattle.bitmap_scan.specs.declared.stage.Stage.TheVariants as stages

-- the first range of the index at a place, if there are an index and a block
abbrev pub first_range : List ScannedIndex → (extent at : ℕ) → Stage
first_range indexes extent at = if nat_lt at (length indexes) && nat_lt 0 extent then stages.Map at 0 else stages.Judged

-- that range of the index, if it has a block below the extent, else the first one of the next index
abbrev pub range_from : List ScannedIndex → (extent at range : ℕ) → Stage
range_from indexes extent at range =
    if nat_lt (range * (scanned_at indexes at).pages_per_range) extent then stages.Map at range else first_range indexes extent (at + 1)

-- the blocks from one on, below another, are all candidates or all none
pub record Marks (from end : ℕ) (value : Bool) (old new : List Bool) : Type 0 where
  pub there : (b : ℕ) → from ≤ b → b < end → is_candidate new b ≡ value
  pub before : (b : ℕ) → b < from → is_candidate new b ≡ is_candidate old b
  pub behind : (b : ℕ) → end ≤ b → is_candidate new b ≡ is_candidate old b
  pub room : length new ≡ length old

-- the blocks of the range aren't candidates any more, and the others are what they were
pub record LeavesOut (pages_per_range range : ℕ) (old new : List Bool) : Type 0 where
  pub out : (b : ℕ) → b / pages_per_range ≡ range → is_candidate new b ≡ false
  pub others : (b : ℕ) → b / pages_per_range ≢ range → is_candidate new b ≡ is_candidate old b
  pub room : length new ≡ length old

-- the candidates are the blocks below the extent
pub record AreBelow (extent : ℕ) (old new : List Bool) : Type 0 where
  pub below : (b : ℕ) → is_candidate new b ≡ nat_lt b extent
  pub room : length new ≡ length old
