use Rattle.session_core.proofs.InSlots.{goes_in}
use Rattle.session_core.proofs.slots.known_in.Goals as goal

pub returns : goal.returns
returns c = let s = c.args.slot.now in goes_in s.held s.put s.machine s.other c.known_other.ensures
