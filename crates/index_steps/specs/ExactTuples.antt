-- what rows leave in the tuples of an index, exactly
use Rattle.std.specs.Prelude.{◌≡◌, ℕ, zero, suc, ◌+◌, ◌*◌, min, true, false, List, [], ◌∷◌, ◌++◌, map, Option, None, Some}
use Rattle.block_model.specs.declared.row.Row.{Row}
use Rattle.block_model.specs.declared.value.Value.{Value}
use Rattle.range_tuple.specs.ExactTuples.{IsExactTuple}
use Rattle.range_tuple.specs.Tuples.{Tuple}
use Rattle.coverage.specs.IndexView.{IndexTuple, IndexView, NamesTuple}
use Rattle.coverage.specs.Statements.{HasNoMoreRows}
use Rattle.range_tuple.specs.RowsUnited.{UnitesRows}
use Rattle.range_tuple.specs.SoundTuples.{IsIndexTuple}
use Rattle.index_steps.specs.IndexTuples.{IndexShape, classes_of, row_values, seen}
use Rattle.index_steps.specs.Readings.{IsReadAs}

-- its bytes are those of this tuple of the index, and all that is seen of it is seen in them
pub record SaysTuple (shape : IndexShape) (u : IndexTuple) (t : Tuple) : Type 0 where
  pub of : IsIndexTuple (classes_of shape) t
  pub read : IsReadAs shape u.bytes t
  pub sees : u ≡ seen shape u.bytes

-- a placeholder of the range, which has in each column the exact summary of the rows
pub record HasExactly (shape : IndexShape) (range : ℕ) (rows : List (List Value)) (u : IndexTuple) : Type 0 where
  pub tuple : Tuple
  pub says : SaysTuple shape u tuple
  pub of : tuple.range ≡ range
  pub placeholder : tuple.placeholder ≡ true
  pub exact : IsExactTuple rows tuple

-- a final tuple of its range, which has in each column the exact summary of the rows, united with what this one held
pub record HasUnited (shape : IndexShape) (rows : List (List Value)) (held : Tuple) (u : IndexTuple) : Type 0 where
  pub tuple : Tuple
  pub says : SaysTuple shape u tuple
  pub of : tuple.range ≡ held.range
  pub final : tuple.placeholder ≡ false
  pub unites : UnitesRows rows held.columns tuple.columns

abbrev pub row_list : Option Row → List Row
row_list None = []
row_list (Some r) = r ∷ []

-- the rows of a block's first slots, in order of slot
abbrev pub rows_of_slots : (ℕ → Option Row) → ℕ → List Row
rows_of_slots row zero = []
rows_of_slots row (suc n) = rows_of_slots row n ++ row_list (row n)

-- the rows of the blocks from the first one up to the next one, in order of block and slot
pub data AreRowsOf (row : ℕ → ℕ → Option Row) (first : ℕ) : (next : ℕ) → List Row → Type 0 where
  NoBlock : AreRowsOf row first first []
  OneMoreBlock : (next slots : ℕ) (rows : List Row) → AreRowsOf row first next rows → HasNoMoreRows (row next) slots → AreRowsOf row first (next + 1) (rows ++ rows_of_slots (row next) slots)

-- all rows of the range's blocks
abbrev pub AreRowsOfRange : IndexView → (range : ℕ) → List Row → Type 0
AreRowsOfRange w range rows = AreRowsOf w.row (range * w.pages_per_range) (min w.blocks ((range + 1) * w.pages_per_range)) rows

-- The map comes to name a final tuple in place of the one that it named: in each column it has the exact summary of all rows of the
-- range, in order of block and slot, united with what the old one held.
pub record LeavesExactly (shape : IndexShape) (w v : IndexView) (range : ℕ) : Type 0 where
  pub old : IndexTuple
  pub named : NamesTuple w range old
  pub held : Tuple
  pub says : SaysTuple shape old held
  pub rows : List Row
  pub all : AreRowsOfRange w range rows
  pub new : IndexTuple
  pub names : NamesTuple v range new
  pub unites : HasUnited shape (map (row_values shape) rows) held new
