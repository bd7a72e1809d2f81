-- When what a summariser has made so far is exactly what the rows of its range make.
use Rattle.std.specs.Prelude.{◌≡◌, ℕ, ◌+◌, ◌*◌, min, Option}
use Rattle.block_model.specs.declared.row.Row.{Row}
use Rattle.coverage.specs.IndexView.{IndexTuple, Contents, ExtentUnread, Passing, IndexView, NamesTuple}
use Rattle.coverage.specs.Statements.{OnIndex, Empty, Copied, Moving, Phase, IsAt, Statement, Maintaining, rows_added, HasNoMoreRows}

-- The rows of the blocks from the first one up to the next one, in order of block and slot, were added to the empty placeholder of the range.
pub data IsPassed (contents : Contents) (row : ℕ → ℕ → Option Row) (range first : ℕ) : (next : ℕ) → IndexTuple → Type 0 where
  NonePassed : IsPassed contents row range first first (contents.empty range)
  OneMorePassed : (next slots : ℕ) (result : IndexTuple) → IsPassed contents row range first next result → HasNoMoreRows (row next) slots
      → IsPassed contents row range first (next + 1) (rows_added contents (row next) slots result)

abbrev pub IsPassedIn : IndexView → (range next : ℕ) → IndexTuple → Type 0
IsPassedIn w range next result = IsPassed w.contents w.row range (range * w.pages_per_range) next result

-- the tuple that is to be final unites the placeholder with the result
abbrev pub UnitesExactly : Contents → IndexTuple → OnIndex → Type 0
UnitesExactly contents result (Copied x old new) = new ≡ contents.united old result
UnitesExactly contents result (Moving x y old new) = new ≡ contents.united old result
UnitesExactly contents result on_index = Unit

-- what a summariser in this phase has made is exact, and so is the extent that it read; before it reads the extent it has made nothing
abbrev pub IsExact : IndexView → (range : ℕ) → Phase → Type 0
IsExact w range (IsAt ExtentUnread on_index) = on_index ≡ Empty
IsExact w range (IsAt (Passing extent next result) on_index) = (extent ≡ min w.blocks ((range + 1) * w.pages_per_range)) × IsPassedIn w range next result
    × UnitesExactly w.contents result on_index
IsExact w range phase = Unit

-- so it is after a step, where the summariser is at its range still
abbrev pub IsExactAfter : IndexView → (range : ℕ) → Statement → Type 0
IsExactAfter w range (Maintaining m phase) = IsExact w range phase
IsExactAfter w range statement = Unit

-- The map comes to name the placeholder that it named, united with what all rows of the range's blocks make, in order of block and slot.
abbrev pub NamesExactFinal : IndexView → IndexView → (range : ℕ) → Type 0
NamesExactFinal w v range = (placeholder : IndexTuple) × (result : IndexTuple) × NamesTuple w range placeholder
    × IsPassedIn w range (min w.blocks ((range + 1) * w.pages_per_range)) result × NamesTuple v range (w.contents.united placeholder result)
