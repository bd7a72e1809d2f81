-- the end of a move, as the protocol sees it
use Rattle.std.specs.Prelude.{◌≡◌, ℕ, Option, Some}
use Rattle.block_model.specs.declared.place.Spot.{Spot}
use Rattle.coverage.specs.IndexView.{Building, IndexTuple, IndexView}
use Rattle.coverage.specs.PageOrder.{AreOrdered}
use Rattle.coverage.specs.Steps.{DropsTuple, SetsEntry}
use Rattle.index_contents.specs.IndexContents.{IndexContents}
use Rattle.index_steps.specs.IndexTuples.{IndexShape}
use Rattle.index_steps.specs.ShownIndex.{Shows}
use Rattle.index_steps.specs.SwapAnswers.{view_after}

-- an index that the pages show has its pages in order, and is in a move: the map names the old tuple, and the new one stands
pub record IsMoving (shape : IndexShape) (c : IndexContents) (range : ℕ) (from to : Spot) : Type 0 where
  pub view : IndexView
  pub lock : ℕ → Option ℕ
  pub shows : Shows shape c lock view
  pub ordered : AreOrdered view
  pub named : view.entry range ≡ Some from
  pub put : (t : IndexTuple) × (view.tuple to ≡ Some t)

-- the range's entry becomes this spot, in each index that the pages showed, whoever steps
abbrev pub SetsIn : IndexShape → (c d : IndexContents) → (range : ℕ) → Spot → Type 0
SetsIn shape c d range to = (lock : ℕ → Option ℕ) (w : IndexView) → Shows shape c lock w → (s : ℕ) (building : ℕ → Option Building) (loose : ℕ → Option Spot)
    → SetsEntry s w (view_after shape d lock w building loose) range to

-- the tuple there goes, and the actor gives its locks
abbrev pub DropsIn : IndexShape → (c d : IndexContents) → (lock locked : ℕ → Option ℕ) → (s : ℕ) → Spot → Type 0
DropsIn shape c d lock locked s from = (w : IndexView) → Shows shape c lock w → (building : ℕ → Option Building) (loose : ℕ → Option Spot)
    → DropsTuple s w (view_after shape d locked w building loose) from
