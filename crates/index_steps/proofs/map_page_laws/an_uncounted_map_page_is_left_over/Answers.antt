use Rattle.index_steps.proofs.Ordered.{left_over}
use Rattle.index_steps.proofs.map_page_laws.an_uncounted_map_page_is_left_over.Goals as goal

pub returns : goal.returns
returns c = left_over
