-- What a step changes of an index, apart from what statements have in hand: whatever that is then, it is the step.
use Rattle.std.specs.Prelude.{◌≡◌, ℕ, Bool, Option}
use Rattle.block_model.specs.declared.place.Spot.{Spot}
use Rattle.block_model.specs.declared.reply.Point.{Point}
use Rattle.block_model.specs.declared.row.Row.{Row}
use Rattle.coverage.specs.IndexView.{IndexTuple, Building, Pages, IndexView}
use Rattle.coverage.specs.Statements.{OnIndex, Phase, Statement}
use Rattle.coverage.specs.Steps.{IsUnnamed, SweepsTuples, InsertStep, SummariseStep, DesummariseStep}
use Rattle.coverage.specs.Points.{insert_point, summarise_point, desummarise_point}
use Rattle.coverage.specs.Counts.{summarise_count, desummarise_count}

-- the range map, the tuples, the pages and who locks them, and which tuples that were unnamed at the opening stand still
pub record IndexPart : Type 0 where
  pub entry : ℕ → Option Spot
  pub tuple : Spot → Option IndexTuple
  pub pages : Pages
  pub lock : ℕ → Option ℕ
  pub unnamed : Spot → Bool

abbrev pub part_of : IndexView → IndexPart
part_of w = record { entry = w.entry; tuple = w.tuple; pages = w.pages; lock = w.lock; unnamed = w.unnamed }

-- the index with another such part, with what the sessions build and have in hand then
abbrev pub with_part : IndexView → IndexPart → (ℕ → Option Building) → (ℕ → Option Spot) → IndexView
with_part w p building loose =
    record w { entry = p.entry; tuple = p.tuple; pages = p.pages; lock = p.lock; unnamed = p.unnamed; building = building; loose = loose }

-- a step of an insert, under this point, makes this part of the index
abbrev pub InsertMakes : (s b k : ℕ) → Row → IndexView → IndexPart → OnIndex → Statement → Point → Type 0
InsertMakes s b k r w p old new point = (building : ℕ → Option Building) (loose : ℕ → Option Spot)
    → (step : InsertStep s b k r w (with_part w p building loose) old new) × (insert_point step ≡ point)

-- so does one of a summariser, which gives so many ranges a final tuple
abbrev pub SummariseMakes : (s range : ℕ) → IndexView → IndexPart → Phase → Statement → Point → (count : ℕ) → Type 0
SummariseMakes s range w p old new point count = (building : ℕ → Option Building) (loose : ℕ → Option Spot)
    → (step : SummariseStep s range w (with_part w p building loose) old new) × (summarise_point step ≡ point) × (summarise_count step ≡ count)

-- or one of a desummarise, with which so many ranges lose their entry
abbrev pub DesummariseMakes : (s range : ℕ) → IndexView → IndexPart → Phase → Statement → Point → (count : ℕ) → Type 0
DesummariseMakes s range w p old new point count = (building : ℕ → Option Building) (loose : ℕ → Option Spot)
    → (step : DesummariseStep s range w (with_part w p building loose) old new) × (desummarise_point step ≡ point) × (desummarise_count step ≡ count)

-- or a vacuum's sweep of a page
abbrev pub SweepMakes : (s page : ℕ) → IndexView → IndexPart → Type 0
SweepMakes s page w p = (building : ℕ → Option Building) (loose : ℕ → Option Spot)
    → SweepsTuples s w (with_part w p building loose) page (λ x. (x.block ≡ page) × IsUnnamed w x)
