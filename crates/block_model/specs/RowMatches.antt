-- which rows a query finds ("Table Expressions", the WHERE clause)
use Rattle.std.specs.Prelude.{Bool, false, ◌&&◌, ◌==◌, List, slice_get, Option, None, Some}
use Rattle.std.specs.List.{list_all}
use Rattle.block_model.specs.declared.value.Value.{Value}
use Rattle.block_model.specs.declared.row.Cond.{Cond}
use Rattle.block_model.specs.declared.row.Query.{Query}
use Rattle.block_model.specs.declared.row.Row.{Row}
use Rattle.block_model.specs.Matches.{matches}

-- a value that isn't there meets nothing
abbrev pub value_there_matches : Option Value → Cond → Bool
value_there_matches None cond = false
value_there_matches (Some v) cond = matches v cond.op cond.key

-- the condition's column meets it
abbrev pub column_matches : List Value → Cond → Bool
column_matches values cond = value_there_matches (slice_get values cond.column) cond

-- the row is of the query's table and meets each condition
abbrev pub row_matches : Query → Row → Bool
row_matches query row = (row.table == query.table) && list_all (column_matches row.values) query.conds
