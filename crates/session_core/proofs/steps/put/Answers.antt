use Rattle.std.proofs.Common.{Option, ◌∙◌, sym, ap, subst}
use Rattle.session_parts.specs.declared.hand.Hand.{Hand}
use Rattle.session_parts.specs.declared.hand.Hand.TheVariants as hands
use Rattle.session_inserts.specs.Settling.{SettlesSo}
use Rattle.session_core.specs.declared.slots.Held.{Held}
use Rattle.session_core.specs.Slots.{hand_there}
use Rattle.session_core.proofs.InSlots.{put_left}
use Rattle.session_core.proofs.steps.put.Goals as goal

pub put_row-answer-requires-clause-fit : goal.put_row-answer-requires-clause-fit
put_row-answer-requires-clause-fit g c = c.requires.fit

pub put_row-answer-requires-clause-few : goal.put_row-answer-requires-clause-few
put_row-answer-requires-clause-few g c = c.requires.few

pub put_row-answer-requires-clause-shown : goal.put_row-answer-requires-clause-shown
put_row-answer-requires-clause-shown g c = c.requires.shown

pub put_row-answer-requires-clause-machine : goal.put_row-answer-requires-clause-machine
put_row-answer-requires-clause-machine g c = c.requires.slot.machine

pub returns : goal.returns
returns g c =
    let put = c.args.slot.now.put in
    let made = c.put_row-answer in
    let left = ap (λ (k : Held). hand_there k put made.new.machine c.args.slot.now.other) c.held_after-slot.ensures ∙ put_left put made.new.machine c.args.slot.now.other made.result in
    record {
      so = subst (λ (h : Option Hand). SettlesSo g.D.Disk.told c.args.parts.now made.new.parts c.args.session (hands.Puts put.table put.values) h made.result) (sym left) made.ensures.so;
      survives = made.ensures.survives;
      slot = record { machine = made.ensures.machine; elsewhere = c.requires.slot.elsewhere };
    }
