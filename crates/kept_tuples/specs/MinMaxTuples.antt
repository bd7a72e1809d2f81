-- tuples of one minmax column, and what is known of a tuple
use Rattle.std.specs.Prelude.{◌≡◌, ℕ, ℤ, Bool, true, false, List, [], ◌∷◌, Option, Some}
use Rattle.opclass_any.specs.declared.classes.AnyClass.TheVariants as forms
use Rattle.opclass_any.specs.declared.classes.AnySummary.TheVariants as kept
use Rattle.opclass_minmax.specs.Bounds.{Between, IsOrdered}
use Rattle.range_tuple.specs.NullStates.{state_of}
use Rattle.range_tuple.specs.TupleBytes.{tuple_bytes}
use Rattle.range_tuple.specs.Tuples.{IndexedColumn, IsTuple, Tuple}
use Rattle.kept_tuples.specs.declared.bounds.Bounds.{Bounds}
use Rattle.kept_tuples.specs.declared.bounds.Bounds.TheVariants.{MinMax, Unknown}

-- a minmax column of values from the least to the greatest, with nulls or without
abbrev pub minmax_column : (place : ℕ) → (nulls : Bool) → (least greatest : ℤ) → IndexedColumn
minmax_column place nulls least greatest = record { place = place; class = forms.MinMax (record {}); state = state_of nulls true; summary = kept.MinMax (Between least greatest) }

-- the final tuple of that column alone
abbrev pub minmax_tuple : (place range : ℕ) → (nulls : Bool) → (least greatest : ℤ) → Tuple
minmax_tuple place range nulls least greatest = record { range = range; placeholder = false; empty = false; columns = minmax_column place nulls least greatest ∷ [] }

-- what is known of a tuple: nothing, or that its bytes are those of the final tuple of one minmax column, whichever that is
abbrev pub Tells : Bounds → Option (List ℕ) → Type 0
Tells Unknown tuple = Unit {0}
Tells (MinMax nulls least greatest) tuple =
    IsOrdered least greatest × ((range : ℕ) × ((place : ℕ) → IsTuple (minmax_tuple place range nulls least greatest) × (tuple ≡ Some (tuple_bytes (minmax_tuple place range nulls least greatest)))))
