-- what copying the tuple of a range answers
use Rattle.std.specs.Prelude.{◌≡◌, ◌≢◌, ℕ, Bool, List, Option, None, Some}
use Rattle.block_model.specs.declared.place.Spot.{Spot}
use Rattle.block_model.specs.declared.row.Cond.{Cond}
use Rattle.store_layout.specs.DiskLayout.{DiskLayout, IsPlace, page_offset}
use Rattle.page_map.specs.declared.faults.StoreError.{StoreError}
use Rattle.page_map.specs.declared.faults.StoreError.TheVariants as errors
use Rattle.range_tuple.specs.Judged.{IsJudged}
use Rattle.range_tuple.specs.TupleBytes.{tuple_bytes}
use Rattle.range_tuple.specs.TupleReading.{tuple_in}
use Rattle.range_tuple.specs.Tuples.{Tuple}
use Rattle.coverage.specs.IndexView.{IndexView}
use Rattle.coverage.specs.Steps.{IsGone, Stands}
use Rattle.index_contents.specs.IndexContents.{IndexContents, relation_of}
use Rattle.index_steps.specs.IndexTuples.{IndexShape, classes_of, range_said, seen}
use Rattle.index_steps.specs.ShownIndex.{Shows}

-- in each index that the pages show, the bytes stand at the spot as a tuple of the range
abbrev pub ShowsTuple : IndexShape → IndexContents → (range : ℕ) → Spot → List ℕ → Type 0
ShowsTuple shape c range x bytes = (lock : ℕ → Option ℕ) (w : IndexView) → Shows shape c lock w → Stands w range x (seen shape bytes)

-- no tuple of the range stands there
abbrev pub ShowsGone : IndexShape → IndexContents → (range : ℕ) → Spot → Type 0
ShowsGone shape c range x = (lock : ℕ → Option ℕ) (w : IndexView) → Shows shape c lock w → IsGone w range x

-- the bytes are those of this tuple, and the classes of the index read it in them
pub record IsReadAs (shape : IndexShape) (bytes : List ℕ) (t : Tuple) : Type 0 where
  pub spelt : bytes ≡ tuple_bytes t
  pub read : tuple_in (classes_of shape) bytes ≡ Some t

-- bytes stand at the spot that begin with the number of the range, and are no tuple of the index
pub record IsMisread (shape : IndexShape) (c : IndexContents) (range : ℕ) (x : Spot) : Type 0 where
  pub bytes : List ℕ
  pub there : c.bytes x ≡ Some bytes
  pub of : range_said bytes ≡ range
  pub misread : tuple_in (classes_of shape) bytes ≡ None

-- damage is told by the byte at which a page begins that the index may have
abbrev pub NamesPageOf : DiskLayout → (index : ℕ) → StoreError → Type 0
NamesPageOf layout index (errors.Damaged at) = (block : ℕ) × IsPlace layout (record { relation = relation_of layout index; block = block }) × (at ≡ page_offset layout (record { relation = relation_of layout index; block = block }))
NamesPageOf layout index error = Unit {0}

-- the tuple of the range stands at the spot, and keeps the conditions or doesn't
pub record IsJudgedAt (shape : IndexShape) (c : IndexContents) (range : ℕ) (x : Spot) (conds : List Cond) (kept : Bool) : Type 0 where
  pub bytes : List ℕ
  pub there : ShowsTuple shape c range x bytes
  pub judged : IsJudged (classes_of shape) bytes conds kept

-- bytes stand at the spot that begin with the number of the range
abbrev pub HasRangeAt : IndexContents → (range : ℕ) → Spot → Type 0
HasRangeAt c range x = (bytes : List ℕ) × (c.bytes x ≡ Some bytes) × (range_said bytes ≡ range)

-- the map names a spot for the range at which no bytes stand that begin with the number of the range
pub record IsMisnamed (c : IndexContents) (range : ℕ) : Type 0 where
  pub spot : Spot
  pub named : c.entry range ≡ Some spot
  pub none : (bytes : List ℕ) → c.bytes spot ≡ Some bytes → range_said bytes ≢ range
