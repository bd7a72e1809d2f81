use Rattle.session_parts.proofs.Slots.{filled_slot, marked_slot, same_slots}
use Rattle.session_parts.proofs.laws_tables.slots_stay_for_others.Goals as goal

pub returns-clause-same : goal.returns-clause-same
returns-clause-same c = same_slots

pub returns-clause-filled : goal.returns-clause-filled
returns-clause-filled c = filled_slot

pub returns-clause-marked : goal.returns-clause-marked
returns-clause-marked c = marked_slot
