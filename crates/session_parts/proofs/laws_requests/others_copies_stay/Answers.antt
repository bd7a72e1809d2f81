use Rattle.session_parts.proofs.Requests.{copies_stay}
use Rattle.session_parts.proofs.laws_requests.others_copies_stay.Goals as goal

pub returns : goal.returns
returns c = copies_stay
