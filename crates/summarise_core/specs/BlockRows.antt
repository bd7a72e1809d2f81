-- the rows of a block, and which of them the classes of an index take
use Rattle.std.specs.Prelude.{◌≡◌, ℕ, true, All, List, map, slice_get}
use Rattle.block_model.specs.declared.value.Kind.{Kind}
use Rattle.block_model.specs.declared.value.Value.{Value}
use Rattle.heap_rows.specs.declared.rows.Stored.{Stored}
use Rattle.opclass_any.specs.declared.classes.AnyClass.{AnyClass}
use Rattle.range_tuple.specs.TupleIncludes.{TakesThere}
use Rattle.index_steps.specs.IndexTuples.{are_values, have_kinds}

-- the values of rows, in their order
abbrev pub values_of : List Stored → List (List Value)
values_of rows = map (λ row. row.values) rows

-- each class takes the value where its column stands
abbrev pub IsTakenBy : List (ℕ × AnyClass) → List Value → Type 0
IsTakenBy parts values = All (λ (p : ℕ × AnyClass). TakesThere p.1 (slice_get values p.0)) parts

-- values that were made as those of columns of some kinds are values of them
abbrev pub AreKnown : List Value → Type 0
AreKnown values = (kinds : List Kind) → have_kinds kinds values ≡ true → are_values kinds values ≡ true
