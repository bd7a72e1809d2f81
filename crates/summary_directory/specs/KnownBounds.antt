-- an index on one minmax column
use Rattle.std.specs.Prelude.{◌≡◌, ℕ, List, [], ◌∷◌, Option, None, Some}
use Rattle.block_model.specs.declared.row.Cond.{Cond}
use Rattle.opclass_any.specs.declared.classes.AnyClass.{AnyClass}
use Rattle.opclass_any.specs.declared.classes.AnyClass.TheVariants.{MinMax}
use Rattle.range_tuple.specs.TupleBytes.{tuple_bytes}
use Rattle.range_tuple.specs.TupleReading.{tuple_in}
use Rattle.range_tuple.specs.Tuples.{IsTuple, Tuple, parts_of}
use Rattle.kept_tuples.specs.Wanted.{IsWanted}
use Rattle.kept_tuples.specs.declared.wanted.Wanted.{Wanted}

-- the only column is this one, and its class minmax; or nothing is said
abbrev pub IsOnMinMax : List (ℕ × AnyClass) → Option ℕ → Type 0
IsOnMinMax classes None = Unit {0}
IsOnMinMax classes (Some place) = classes ≡ (place, MinMax (record {})) ∷ []

-- what conditions want of that column
abbrev pub IsWantedOf : List (ℕ × AnyClass) → List Cond → Option Wanted → Type 0
IsWantedOf classes conds None = Unit {0}
IsWantedOf classes conds (Some w) = (place : ℕ) × (classes ≡ (place, MinMax (record {})) ∷ []) × IsWanted place conds w

-- the bytes of a tuple of the index are read as it
abbrev pub ReadsAgain : List (ℕ × AnyClass) → Type 0
ReadsAgain classes = (t : Tuple) → IsTuple t → parts_of t.columns ≡ classes → tuple_in classes (tuple_bytes t) ≡ Some t
