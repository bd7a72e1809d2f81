use Rattle.session_parts.proofs.Opening.{opened_is_shown}
use Rattle.session_parts.proofs.laws_opening.an_opened_store_is_shown.Goals as goal

pub returns : goal.returns
returns c = opened_is_shown
