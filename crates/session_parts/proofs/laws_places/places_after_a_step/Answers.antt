use Rattle.session_parts.proofs.Steps.{after_leads, at_once_leads, table_after}
use Rattle.session_parts.proofs.laws_places.places_after_a_step.Goals as goal

pub returns-clause-table : goal.returns-clause-table
returns-clause-table c = table_after

pub returns-clause-leads : goal.returns-clause-leads
returns-clause-leads c = after_leads

pub returns-clause-at_once : goal.returns-clause-at_once
returns-clause-at_once c = at_once_leads
