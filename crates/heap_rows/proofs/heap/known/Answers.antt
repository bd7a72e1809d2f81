use Rattle.heap_rows.specs.Heaps.{no_table}
use Rattle.heap_rows.proofs.Heaps.{few_rows, form_found, some_row}
use Rattle.page_layout.specs.RowSizes.{small_row}
use Rattle.heap_rows.proofs.heap.known.Goals as goal

pub returns-clause-found : goal.returns-clause-found
returns-clause-found c = form_found c.args.layout.now c.args.table c.requires

pub returns-clause-is_form : goal.returns-clause-is_form
returns-clause-is_form c = (c.tables_have_forms.ensures.forms c.args.table no_table c.requires).form

pub returns-clause-some : goal.returns-clause-some
returns-clause-some c = some_row c.args.layout.now c.args.table c.requires c.known.ensures.limits

pub returns-clause-small : goal.returns-clause-small
returns-clause-small c = small_row _ (c.tables_have_forms.ensures.forms c.args.table no_table c.requires).few

pub returns-clause-few : goal.returns-clause-few
returns-clause-few c = few_rows c.args.layout.now c.args.table (c.tables_have_forms.ensures.forms c.args.table no_table c.requires).form
