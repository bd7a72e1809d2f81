use Rattle.index_steps.proofs.Behind.{state_not_damaged}
use Rattle.index_steps.proofs.map_page_laws.a_page_of_a_state_is_not_damaged.Goals as goal

pub returns : goal.returns
returns c = state_not_damaged c.an_index_page_has_one_list.ensures.entries
