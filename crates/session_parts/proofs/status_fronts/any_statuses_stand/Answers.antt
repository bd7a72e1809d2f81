use Rattle.session_parts.proofs.Within.{any_place_stands, any_statuses_stand}
use Rattle.session_parts.proofs.status_fronts.any_statuses_stand.Goals as goal

pub returns-clause-statuses : goal.returns-clause-statuses
returns-clause-statuses c = any_statuses_stand

pub returns-clause-places : goal.returns-clause-places
returns-clause-places c = any_place_stands
