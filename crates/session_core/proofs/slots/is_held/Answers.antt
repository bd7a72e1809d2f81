use Rattle.std.proofs.Common.{sym, ap, ◌∙◌}
use Rattle.std.specs.Option.{is_some}
use Rattle.session_core.specs.declared.slots.Held.{Held}
use Rattle.session_core.specs.Slots.{hand_there}
use Rattle.session_core.proofs.InSlots.{is_some_insert}
use Rattle.session_core.proofs.slots.is_held.Goals as goal

pub returns-in-Nothing : goal.returns-in-Nothing
returns-in-Nothing c = let s = c.args.slot.now in ap (λ (k : Held). is_some (hand_there k s.put s.machine s.other)) (sym c.in-Nothing.is)

pub returns-in-Put : goal.returns-in-Put
returns-in-Put c = let s = c.args.slot.now in ap (λ (k : Held). is_some (hand_there k s.put s.machine s.other)) (sym c.in-Put.is)

pub returns-in-Insert : goal.returns-in-Insert
returns-in-Insert c = let s = c.args.slot.now in c.is_some.ensures ∙ is_some_insert s.machine ∙ ap (λ (k : Held). is_some (hand_there k s.put s.machine s.other)) (sym c.in-Insert.is)

pub returns-in-Other : goal.returns-in-Other
returns-in-Other c = let s = c.args.slot.now in c.is_some-in-Other.ensures ∙ ap (λ (k : Held). is_some (hand_there k s.put s.machine s.other)) (sym c.in-Other.is)
