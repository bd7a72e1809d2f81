-- the names that texts tell
use Rattle.std.specs.Prelude.{ℕ, List, [], map, slice_get, slice_index_or, Option, None, Some}
use Rattle.block_model.specs.declared.schema.Table.{Table}
use Rattle.store_layout.specs.DiskLayout.{DiskLayout}
use Rattle.reply_texts.specs.declared.dropped.Dropped.{Dropped}
use Rattle.coverage.specs.Accounts.{Asked}
use Rattle.index_steps.specs.IndexTuples.{index_at}
use Rattle.index_steps.specs.ShownTable.{indexes_of}
use Rattle.script_semantics.specs.Place.{Place}

abbrev name_in : Option Table → List ℕ
name_in None = []
name_in (Some table) = table.name

abbrev pub table_name : DiskLayout → ℕ → List ℕ
table_name layout table = name_in (slice_get layout.schema.tables table)

-- the number of the index at that place among the table's, and its name
abbrev pub index_number : DiskLayout → (table at : ℕ) → ℕ
index_number layout table at = slice_index_or (indexes_of layout table) at 0

abbrev pub index_name : DiskLayout → (table at : ℕ) → List ℕ
index_name layout table at = (index_at layout (index_number layout table at)).name

-- the session's name
abbrev pub name_of : Place → ℕ → List ℕ
name_of p n = slice_index_or p.names n []

-- what is told of summaries that were asked for in vain
abbrev pub dropped_of : DiskLayout → List Asked → List Dropped
dropped_of layout asked = map (λ (a : Asked). record { index = index_name layout a.table a.at; range = a.range }) asked
