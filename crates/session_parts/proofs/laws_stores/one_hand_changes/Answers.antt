use Rattle.session_parts.proofs.Stores.{hand_changes}
use Rattle.session_parts.proofs.laws_stores.one_hand_changes.Goals as goal

pub returns : goal.returns
returns c = hand_changes
