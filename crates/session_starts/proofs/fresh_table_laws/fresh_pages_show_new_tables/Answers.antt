use Rattle.session_starts.specs.FreshPages.{fresh_pages}
use Rattle.session_starts.proofs.NewIndexes.{fresh_index_contents}
use Rattle.session_starts.proofs.NewTables.{new_table_laid_out, new_table_shown}
use Rattle.session_starts.proofs.fresh_table_laws.fresh_pages_show_new_tables.Goals as goal

pub returns-clause-indexes : goal.returns-clause-indexes
returns-clause-indexes c = λ index within.
    let fresh = c.a_new_store_opens_to_fresh_pages.ensures in
    let one = c.an_index_page_has_one_list.ensures in
    fresh_index_contents c.args.layout.now c.known.ensures.sizes (fresh_pages c.args.layout.now) fresh.whole fresh.pages index within one.entries one.pages

pub returns-clause-order : goal.returns-clause-order
returns-clause-order c = λ index within.
    c.a_store_in_order_has_its_indexes_in_order.ensures c.args.layout.now (fresh_pages c.args.layout.now) index c.a_new_store_opens_to_fresh_pages.ensures.order within

pub returns-clause-tables : goal.returns-clause-tables
returns-clause-tables c = λ locks table counts unlocked.
    let layout = c.args.layout.now in
    let fresh = c.a_new_store_opens_to_fresh_pages.ensures in
    let one = c.an_index_page_has_one_list.ensures in
    new_table_shown layout (fresh_pages layout) locks c.known.ensures.limits unlocked
    (λ index within. fresh_index_contents layout c.known.ensures.sizes (fresh_pages layout) fresh.whole fresh.pages index within one.entries one.pages)
    (λ index within. c.tuples_of_an_index_are_lawful.ensures.layouts layout index c.known.ensures.limits within)
    (c.every_index_of_a_table_is_listed.ensures.only layout) table counts

pub returns-clause-laid_out : goal.returns-clause-laid_out
returns-clause-laid_out c = λ locks table counts. new_table_laid_out c.args.layout.now (fresh_pages c.args.layout.now) locks table counts
