-- the tables as a list of rows
use Rattle.std.specs.Prelude.{◌≡◌, true, List, map}
use Rattle.std.specs.FinMap.{from_sorted, is_sorted}
use Rattle.block_model.specs.declared.row.RowId.{RowId}
use Rattle.block_model.specs.declared.row.Row.{Row}
use Rattle.block_model.specs.TableState.{TableState, id_cmp}

-- each row stands at its own id
abbrev pub at_ids : List Row → List (RowId × Row)
at_ids rows = map (λ r. (r.id, r)) rows

-- the ids rise
abbrev pub IsInOrder : List Row → Type 0
IsInOrder rows = is_sorted id_cmp (at_ids rows) ≡ true

-- the state of the tables that has these rows, which are in order
abbrev pub table_of : List Row → TableState
table_of rows = from_sorted (at_ids rows)
