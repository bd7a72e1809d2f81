-- the heap of each table
use Rattle.std.specs.Prelude.{ℕ, ◌+◌, List, [], slice_index_or}
use Rattle.block_model.specs.declared.value.Kind.{Kind}
use Rattle.block_model.specs.declared.schema.Table.{Table}
use Rattle.store_layout.specs.DiskLayout.{DiskLayout}
use Rattle.page_layout.specs.declared.page.Form.{Form}
use Rattle.page_layout.specs.HeapForms.{heap_form, kinds_of}

-- the statuses are relation 0, and the tables come behind them
abbrev pub relation_of : ℕ → ℕ
relation_of table = table + 1

-- a table without columns or rows
abbrev pub no_table : Table
no_table = record { name = []; rows_per_page = 0; columns = [] }

-- the table of that number
abbrev pub table_at : DiskLayout → ℕ → Table
table_at layout table = slice_index_or layout.schema.tables table no_table

-- the kinds of its columns
abbrev pub kinds_at : DiskLayout → ℕ → List Kind
kinds_at layout table = kinds_of (table_at layout table)

-- how many slots each of its pages has
abbrev pub slots_a_page : DiskLayout → ℕ → ℕ
slots_a_page layout table = (table_at layout table).rows_per_page

-- the form of its pages
abbrev pub form_at : DiskLayout → ℕ → Form
form_at layout table = heap_form (table_at layout table)
