-- what the tuple of a range tells a scan
use Rattle.std.specs.Prelude.{◌≡◌, ℕ, true, false, List}
use Rattle.std.specs.List.{list_all}
use Rattle.block_model.specs.declared.place.Spot.{Spot}
use Rattle.block_model.specs.declared.row.Cond.{Cond}
use Rattle.block_model.specs.declared.value.Value.{Value}
use Rattle.block_model.specs.RowMatches.{column_matches}
use Rattle.range_tuple.specs.Keeps.{keeps}
use Rattle.range_tuple.specs.IncludedRows.{tuple_includes}
use Rattle.range_tuple.specs.Tuples.{Tuple}
use Rattle.index_contents.specs.IndexContents.{IndexContents}
use Rattle.index_steps.specs.IndexTuples.{IndexShape}
use Rattle.index_steps.specs.Readings.{IsReadAs, ShowsGone, ShowsTuple}
use Rattle.bitmap_scan.specs.declared.judging.Judged.{Judged}
use Rattle.bitmap_scan.specs.declared.judging.Judged.TheVariants as judged

-- the tuple of the range stands at the spot
pub record IsTupleThere (shape : IndexShape) (c : IndexContents) (range : ℕ) (x : Spot) (t : Tuple) : Type 0 where
  pub bytes : List ℕ
  pub there : ShowsTuple shape c range x bytes
  pub read : IsReadAs shape bytes t

-- a tuple that doesn't keep the conditions includes no row that meets them all
abbrev pub ExcludesMatches : Tuple → List Cond → Type 0
ExcludesMatches t conds = (row : List Value) → tuple_includes t row ≡ true → list_all (column_matches row) conds ≡ false

abbrev pub SaysOfRange : IndexShape → IndexContents → (range : ℕ) → Spot → List Cond → Judged → Type 0
SaysOfRange shape c range x conds judged.Gone = ShowsGone shape c range x
SaysOfRange shape c range x conds judged.Kept = (t : Tuple) × IsTupleThere shape c range x t × (keeps t conds ≡ true)
SaysOfRange shape c range x conds judged.LeftOut = (t : Tuple) × IsTupleThere shape c range x t × (keeps t conds ≡ false) × ExcludesMatches t conds
