use Rattle.index_steps.proofs.Ordered.{not_damaged}
use Rattle.index_steps.proofs.map_page_laws.a_page_in_order_is_not_damaged.Goals as goal

pub returns : goal.returns
returns c = not_damaged c.an_index_page_has_one_list.ensures.entries
