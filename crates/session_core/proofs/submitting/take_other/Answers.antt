use Rattle.std.proofs.Common.{sym, subst}
use Rattle.std.specs.Prelude.{IsSomeAnd}
use Rattle.session_core.specs.declared.slots.Slot.{Slot}
use Rattle.session_core.specs.Slots.{IsKeptSlot, IsNoInsert, hand_of}
use Rattle.session_core.specs.Submitting.{TakesHand}
use Rattle.session_core.proofs.submitting.take_other.Goals as goal

pub returns : goal.returns
returns g c =
    let taken = c.in_ok-hand.ensures.taken in
    record {
      taken = subst (λ (slot : Slot). IsSomeAnd (hand_of slot) (TakesHand c.args.parts.now c.hand_for.new.parts c.args.statement)) (sym c.hold_other.ensures) taken;
      slot = subst (IsKeptSlot c.args.parts.now.pages.layout) (sym c.hold_other.ensures) (record { machine = c.requires.slot.machine; elsewhere = subst IsNoInsert (sym taken.statement_is) c.requires.other });
      wants = tt;
      same = tt;
      same_slot = tt;
    }
