use Rattle.index_steps.proofs.Adding.{row_added}
use Rattle.index_steps.proofs.laws.a_row_is_added_to_what_is_seen.Goals as goal

pub returns : goal.returns
returns c = λ shape e lock w r bytes t shows read takes. row_added shape e lock w r bytes t shows read takes
