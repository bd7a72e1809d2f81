-- How many numbers are so, and what a step adds to the count that its statement's reply tells.
use Rattle.std.specs.Prelude.{◌≡◌, ◌≢◌, ℕ, suc, ◌≤◌, false, Option, None}
use Rattle.block_model.specs.declared.row.Row.{Row}
use Rattle.block_model.specs.declared.place.Spot.{Spot}
use Rattle.coverage.specs.IndexView.{IndexTuple, IndexView, NamesTuple}
use Rattle.coverage.specs.Statements.{Phase, Statement}
use Rattle.coverage.specs.Steps.{SummariseStep, LookMap, LookGone, IsFinal, Found, ReadNoEntry, GrowMap, Put, Set, Extent, Pass, Unite, UniteCopies}
use Rattle.coverage.specs.Steps.{SwapFinal, SetFinal, DropOld, DesummariseStep, ClearMap, ClearNone, Clear, ClearAgain, DropCleared}

-- so many of the numbers below this one are so
pub data IsCountBelow (Is : ℕ → Type 0) : (below count : ℕ) → Type 0 where
  NoneBelow : IsCountBelow Is 0 0
  OneMoreBelow : (n count : ℕ) → Is n → IsCountBelow Is n count → IsCountBelow Is (suc n) (suc count)
  NotThisOne : (n count : ℕ) → (Is n → ⊥) → IsCountBelow Is n count → IsCountBelow Is (suc n) count

-- so many numbers are so: those below some number, and none from there on
pub record IsCountOf (Is : ℕ → Type 0) (count : ℕ) : Type 0 where
  pub below : ℕ
  pub counted : IsCountBelow Is below count
  pub rest : (n : ℕ) → below ≤ n → Is n → ⊥

-- something stood there, and nothing does now
abbrev pub HasGone : {A : Type 0} → Option A → Option A → Type 0
HasGone before after = (before ≢ None) × (after ≡ None)

-- so many rows of a heap block have gone, and so many tuples of an index page
abbrev pub AreRowsGone : (before after : ℕ → ℕ → Option Row) → (block count : ℕ) → Type 0
AreRowsGone before after block count = IsCountOf (λ k. HasGone (before block k) (after block k)) count

abbrev pub AreTuplesGone : (before after : Spot → Option IndexTuple) → (page count : ℕ) → Type 0
AreTuplesGone before after page count =
    IsCountOf (λ k. HasGone (before (record { block = page; slot = k })) (after (record { block = page; slot = k }))) count

-- the map names a final tuple for the range
abbrev pub NamesFinal : IndexView → ℕ → Type 0
NamesFinal w range = (t : IndexTuple) × NamesTuple w range t × (t.placeholder ≡ false)

-- how many final tuples the map comes to name by a summariser's step: one in its place, or where a move is named
abbrev pub summarise_count : {s range : ℕ} {w v : IndexView} {old : Phase} {new : Statement} → SummariseStep s range w v old new → ℕ
summarise_count (LookMap x named reads) = 0
summarise_count (LookGone x gone reads) = 0
summarise_count (IsFinal x t stands final reads) = 0
summarise_count (Found x t stands flag reads) = 0
summarise_count (ReadNoEntry none of reads) = 0
summarise_count (GrowMap old new step) = 0
summarise_count (Put x t is long verdict puts these) = 0
summarise_count (Set x sets none) = 0
summarise_count (Extent extent result start is reads) = 0
summarise_count (Pass extent next slots result wider below none made reads) = 0
summarise_count (Unite extent next result old new all step) = 0
summarise_count (UniteCopies extent next result x old new all stands united reads) = 0
summarise_count (SwapFinal p x old new verdict swap) = 1
summarise_count (SetFinal p x y old new sets same) = 1
summarise_count (DropOld x drops) = 0

-- how many entries leave the map by a desummarise's step
abbrev pub desummarise_count : {s range : ℕ} {w v : IndexView} {old : Phase} {new : Statement} → DesummariseStep s range w v old new → ℕ
desummarise_count (ClearMap x named reads) = 0
desummarise_count (ClearNone none reads) = 0
desummarise_count (Clear x verdict clears these) = 1
desummarise_count (ClearAgain x verdict reads) = 0
desummarise_count (DropCleared x drops) = 0
