use Rattle.std.proofs.Common.{Option, Some, IfSome, IsSome, ◌∙◌, sym, ap, subst}
use Rattle.std.proofs.lemmas.Bool.{false≢true}
use Rattle.brin_insert.specs.declared.insert.Insert.{Insert}
use Rattle.session_parts.specs.declared.hand.Hand.TheVariants as hands
use Rattle.session_parts.specs.StepIs.{stepped_in}
use Rattle.session_parts.specs.Stepping.{IsFit, IsShown}
use Rattle.session_inserts.specs.Settling.{SettlesSo}
use Rattle.session_inserts.specs.SparePut.{insert_of}
use Rattle.session_starts.specs.Stops.{StopsSo}
use Rattle.session_core.specs.declared.slots.Held.{Held}
use Rattle.session_core.specs.Slots.{hand_there}
use Rattle.session_core.proofs.Settling.{answer_there}
use Rattle.session_core.proofs.InSlots.{insert_left}
use Rattle.session_core.proofs.steps.insert_in.Goals as goal

pub unreachable-requires : goal.unreachable-requires
unreachable-requires g c = false≢true (subst (λ (m : Option Insert). IsSome (insert_of m)) c.in_default.is c.requires.hand)

pub unreachable-unreachable : goal.unreachable-unreachable
unreachable-unreachable g c = c.unreachable.result

pub insert_on-answer-requires-clause-few : goal.insert_on-answer-requires-clause-few
insert_on-answer-requires-clause-few g c = c.requires.few

pub insert_on-answer-requires-clause-fit : goal.insert_on-answer-requires-clause-fit
insert_on-answer-requires-clause-fit g c = subst (λ (m : Option Insert). IfSome (insert_of m) (λ was. IsFit g.D.Disk.told c.args.parts.now c.args.session was)) c.in-Some.is c.requires.fit

pub insert_on-answer-requires-clause-shown : goal.insert_on-answer-requires-clause-shown
insert_on-answer-requires-clause-shown g c = subst (λ (m : Option Insert). IfSome (insert_of m) (λ was. IsShown g.D.Disk.told c.args.parts.now c.args.session was)) c.in-Some.is c.requires.shown

pub returns : goal.returns
returns g c =
    let slot = c.args.slot.now in
    let made = c.insert_on-answer in
    let is = made.ensures in
    let left = ap (λ (k : Held). hand_there k slot.put (Some made.new.insert) slot.other) c.held_after-slot.ensures ∙ insert_left slot.put made.new.insert slot.other made.result in
    record {
      so = subst (λ (m : Option Insert). IfSome (insert_of m) (λ was. SettlesSo g.D.Disk.told c.args.parts.now made.new.parts c.args.session was (hand_there c.held_after-slot.result slot.put (Some made.new.insert) slot.other) made.result)) (sym c.in-Some.is)
          (record {
            stepped = stepped_in (hands.Inserts made.new.insert) made.result;
            so = record { steps = is.steps; fit = is.fit; others = is.others; stays = is.stays; cause = is.cause };
            left_is = left;
            answer_is = answer_there (hands.Inserts made.new.insert) made.result;
          });
      survives = subst (λ (m : Option Insert). IfSome (insert_of m) (λ was. StopsSo g.D.Disk.told c.args.parts.now.transactions c.args.session c.args.parts.now.pages made.new.parts.pages was made.result)) (sym c.in-Some.is) is.survives;
      slot = record { machine = is.spare; elsewhere = c.requires.slot.elsewhere };
    }
