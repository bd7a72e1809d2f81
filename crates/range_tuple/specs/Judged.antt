-- what the bytes of a tuple tell of conditions
use Rattle.std.specs.Prelude.{◌≡◌, ℕ, Bool, false, List, Ok}
use Rattle.std.specs.List.{list_all}
use Rattle.block_model.specs.declared.row.Cond.{Cond}
use Rattle.block_model.specs.declared.value.Value.{Value}
use Rattle.block_model.specs.RowMatches.{column_matches}
use Rattle.opclass_any.specs.declared.classes.AnyClass.{AnyClass}
use Rattle.range_tuple.specs.Keeps.{keeps}
use Rattle.range_tuple.specs.TupleBytes.{tuple_bytes}
use Rattle.range_tuple.specs.TupleIncludes.{TupleIncludes}
use Rattle.range_tuple.specs.TupleReading.{read_of}
use Rattle.range_tuple.specs.Tuples.{Tuple}

-- they encode a tuple of the index, which keeps the conditions or doesn't; one that doesn't includes no row that matches them all
pub record IsJudged (parts : List (ℕ × AnyClass)) (bytes : List ℕ) (conds : List Cond) (kept : Bool) : Type 0 where
  pub tuple : Tuple
  pub spelt : bytes ≡ tuple_bytes tuple
  pub read : read_of parts bytes ≡ Ok tuple
  pub answer : kept ≡ keeps tuple conds
  pub misses_no_match : kept ≡ false → (row : List Value) → TupleIncludes tuple row → list_all (column_matches row) conds ≡ false
