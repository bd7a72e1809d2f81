use Rattle.index_contents.specs.OrderLaws.{order_by_entries, order_by_new_page, order_by_tuples}
use Rattle.index_contents.proofs.laws.one_page_keeps_the_order.Goals as goal

pub returns-clause-tuples : goal.returns-clause-tuples
returns-clause-tuples c = order_by_tuples

pub returns-clause-new_page : goal.returns-clause-new_page
returns-clause-new_page c = order_by_new_page

pub returns-clause-entries : goal.returns-clause-entries
returns-clause-entries c = order_by_entries
