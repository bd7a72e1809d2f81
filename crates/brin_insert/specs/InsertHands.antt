-- what an insert has in hand of an index
use Rattle.std.specs.Prelude.{ℕ}
use Rattle.range_tuple.specs.Tuples.{Tuple}
use Rattle.brin_insert.specs.declared.stage.Stage.{Stage}

-- the number of the index, the stage that it is at, and the tuple with the row, where it has one
pub record InsertHand : Type 0 where
  pub index : ℕ
  pub stage : Stage
  pub widened : Tuple
