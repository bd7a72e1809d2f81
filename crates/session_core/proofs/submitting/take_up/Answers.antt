use Rattle.std.proofs.Common.{sym, subst}
use Rattle.std.specs.Prelude.{IsSomeAnd}
use Rattle.store_layout.specs.declared.statement.Statement.{Statement}
use Rattle.store_layout.specs.StatementFits.{IsStatementFor}
use Rattle.session_parts.specs.declared.hand.Hand.TheVariants as hands
use Rattle.session_core.specs.declared.slots.Slot.{Slot}
use Rattle.session_core.specs.Slots.{IsKeptSlot, hand_of}
use Rattle.session_core.specs.Submitting.{TakesHand}
use Rattle.session_core.proofs.InSlots.{no_insert}
use Rattle.session_core.proofs.Taking.{put_taken}
use Rattle.session_core.proofs.submitting.take_up.Goals as goal

pub returns-in-Insert : goal.returns-in-Insert
returns-in-Insert g c =
    let parts = c.args.parts.now in
    let for = subst (λ (s : Statement). IsStatementFor parts.pages.layout.schema s) c.in-Insert.is c.requires.statement in
    record {
      taken = subst (λ (slot : Slot). IsSomeAnd (hand_of slot) (TakesHand parts parts c.args.statement)) (sym c.hold_put.ensures)
          (subst (λ (s : Statement). TakesHand parts parts s (hands.Puts c.in-Insert.table c.in-Insert.values)) (sym c.in-Insert.is) (put_taken parts c.in-Insert.table c.in-Insert.values for));
      slot = subst (IsKeptSlot parts.pages.layout) (sym c.hold_put.ensures) (record { machine = c.requires.slot.machine; elsewhere = c.requires.slot.elsewhere });
      wants = tt;
      same = tt;
      same_slot = tt;
    }

pub take_other-requires-clause-other : goal.take_other-requires-clause-other
take_other-requires-clause-other g c = no_insert c.args.statement c.in_default.not-Insert
