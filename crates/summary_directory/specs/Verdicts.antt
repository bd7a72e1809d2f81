-- which ranges of an index are kept
use Rattle.std.specs.Prelude.{ℕ, ◌/◌, Bool, true, List, [], Option, map, slice_index_or}
use Rattle.std.specs.List.{list_all}
use Rattle.block_model.specs.declared.row.Cond.{Cond}
use Rattle.bitmap_scan.specs.ScanHands.{ScannedIndex}
use Rattle.summary_directory.specs.JudgedBlocks.{keeps_cell}

-- the heap blocks of a range, and of each range whether it is kept; one that isn't listed is
pub record Verdict : Type 0 where
  pub pages_per_range : ℕ
  pub kept : List Bool

abbrev pub keeps_block : (block : ℕ) → Verdict → Bool
keeps_block block v = slice_index_or v.kept (block / v.pages_per_range) true

abbrev pub all_keep : List Verdict → (block : ℕ) → Bool
all_keep verdicts block = list_all (keeps_block block) verdicts

-- an index's ranges, judged by these tuples
abbrev pub verdict_by : List (List (Option (List ℕ))) → List Cond → ScannedIndex → Verdict
verdict_by tuples conds index = record { pages_per_range = index.pages_per_range; kept = map (keeps_cell index.classes conds) (slice_index_or tuples index.number []) }
