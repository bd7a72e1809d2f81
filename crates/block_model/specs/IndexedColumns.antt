-- which columns an index is on
use Rattle.std.specs.Prelude.{ℕ, List, [], slice_get, Option, None, Some}
use Rattle.block_model.specs.declared.value.Kind.{Kind}
use Rattle.block_model.specs.declared.value.Kind.TheVariants as kinds
use Rattle.block_model.specs.declared.schema.Column.{Column}
use Rattle.block_model.specs.declared.schema.Table.{Table}
use Rattle.block_model.specs.declared.schema.Index.{Index}
use Rattle.block_model.specs.declared.schema.Schema.{Schema}

-- the columns of a table, and none where there is no table
abbrev pub columns_in : Option Table → List Column
columns_in None = []
columns_in (Some table) = table.columns

-- the columns of the index's table, and none where that isn't declared
abbrev pub columns_of : Schema → Index → List Column
columns_of schema index = columns_in (slice_get schema.tables index.table)

-- the kind of a column, and int8 where there is no column
abbrev pub kind_in : Option Column → Kind
kind_in None = kinds.Int
kind_in (Some column) = column.kind

-- the kind of the column of that number; a column that isn't there counts as int8
abbrev pub kind_at : List Column → ℕ → Kind
kind_at columns at = kind_in (slice_get columns at)
