-- the kinds of a table's columns, and the form of its heap
use Rattle.std.specs.Prelude.{List, map}
use Rattle.block_model.specs.declared.value.Kind.{Kind}
use Rattle.block_model.specs.declared.schema.Table.{Table}
use Rattle.block_model.specs.RowSize.{row_size}
use Rattle.store_layout.specs.declared.layout.TheConstants.{FORMAT}
use Rattle.page_layout.specs.declared.page.Form.{Form}
use Rattle.page_layout.specs.declared.page.Form.TheVariants as forms

abbrev pub kinds_of : Table → List Kind
kinds_of table = map (λ c. c.kind) table.columns

-- the bytes of its rows, its rows per page, and the kinds of its columns
abbrev pub heap_form : Table → Form
heap_form table = forms.Heap (row_size (kinds_of table)) table.rows_per_page (kinds_of table) FORMAT
